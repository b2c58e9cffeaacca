-- What the public calls promise.
use Rattle.std.specs.Prelude.{◌≡◌, ℕ, ◌+◌, ◌*◌, ◌<◌, ◌≤◌, ◌⊎◌, ◌↔◌, List, length, take, drop, Ok, Err, Result, slice_index}
use Rattle.endless.specs.declared.refusal.Refusal.{Refusal}
use Rattle.endless.specs.declared.refusal.Refusal.TheVariants.{Few, NoGame, NoPlace, OutFull}
use Rattle.endless.specs.Games.{Game, Reads}
use Rattle.endless.specs.View.{words_of}
use Rattle.quotient.specs.Alike.{Merged}
use Rattle.quotient.specs.Says.{Theorems}

-- for each place of g which place of the smaller game it became, which has no more places than g, and so many words of that game, no more than g has; what stood behind is unchanged
pub record Merges (g : Game) (to small to' small' : List ℕ) (len : ℕ) : Type 0 where
  pub smaller : Game
  pub reads : Reads (take len small') smaller
  pub merged : Merged g smaller (slice_index to')
  pub fewer : length smaller ≤ length g
  pub within : len ≤ length (words_of g)
  pub to_behind : drop (length g) to' ≡ drop (length g) to
  pub small_behind : drop len small' ≡ drop len small

-- `merge`: what each answer says
abbrev pub MergedSays : List ℕ → List ℕ → List ℕ → List ℕ → List ℕ → Result ℕ Refusal → Type 0
MergedSays s to small to' small' (Ok len) = (g : Game) × Reads s g × (length g ≤ length to) × (length s ≤ length small) × Merges g to small to' small' len
MergedSays s to small to' small' (Err OutFull) = (g : Game) × Reads s g × ((length to < length g) ⊎ (length small < length s)) × (to' ≡ to) × (small' ≡ small)
MergedSays s to small to' small' (Err NoGame) = ((g : Game) → Reads s g → ⊥) × (to' ≡ to) × (small' ≡ small)
MergedSays s to small to' small' (Err Few) = (to' ≡ to) × (small' ≡ small)
MergedSays s to small to' small' (Err NoPlace) = ⊥

pub record MergedPost (s : List ℕ) (lent : ℕ) (to small to' small' : List ℕ) (r : Result ℕ Refusal) : Type 0 where
  pub says : MergedSays s to small to' small' r
  pub few : (lent < 65536 + 4 * length s) ↔ (r ≡ Err Few)
  pub theorems : Theorems
