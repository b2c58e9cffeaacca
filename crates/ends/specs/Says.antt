-- The theorems about games with ends, as types, and what the call promises.
use Rattle.std.specs.Prelude.{◌≡◌, ℕ, ◌+◌, ◌*◌, ◌<◌, ◌≤◌, Bool, cond, T, ◌↔◌, List, ◌∷◌, length, take, drop, Ok, Err, Result, nat_lt, slice_index}
use Rattle.endless.specs.declared.refusal.Refusal.{Refusal}
use Rattle.endless.specs.declared.refusal.Refusal.TheVariants.{Few, NoGame, NoPlace, OutFull}
use Rattle.endless.specs.Games.{Game, Reads, row, Play, Wins}
use Rattle.endless.specs.Says.{WinsFrom, side, goes}
use Rattle.endless.specs.Promises.{SolvedPost}
use Rattle.ends.specs.Ends.{ReadsEnds, WinsEnd, WinsFromEnds, made}

-- words are at most one game with ends
abbrev pub OneGameEnds : Type 0
OneGameEnds = (s : List ℕ) (g h : Game) → ReadsEnds s g → ReadsEnds s h → g ≡ h

-- of one play not both sides win, whether it goes on for ever or ends
pub record NotBothEnds : Type 0 where
  pub endless : (g : Game) (f : Play) → Wins g 0 f → Wins g 1 f → ⊥
  pub ended : (g : Game) (n : ℕ) (ms : List ℕ) → WinsEnd g 0 n ms → WinsEnd g 1 n ms → ⊥

-- a place isn't won by both
abbrev pub OneWinsEnds : Type 0
OneWinsEnds = (s : List ℕ) (g : Game) (a b : ℕ → ℕ) (u v : ℕ → Bool) (n : ℕ) → ReadsEnds s g → WinsFromEnds g 0 a (λ m. T (u m)) → WinsFromEnds g 1 b (λ m. T (v m)) → T (u n) → T (v n) → ⊥

-- each place is won by one side, with one plan for all its places
abbrev pub EachIsWonEnds : Type 0
EachIsWonEnds = (s : List ℕ) (g : Game) → ReadsEnds s g → (sides : ℕ → ℕ) × (a : ℕ → ℕ) × (b : ℕ → ℕ) × ((n : ℕ) → sides n < 2) × WinsFromEnds g 0 a (λ n. (n < length g) × (sides n ≡ 0)) × WinsFromEnds g 1 b (λ n. (n < length g) × (sides n ≡ 1))

-- and there is no other answer
abbrev pub OnlyAnswerEnds : Type 0
OnlyAnswerEnds = (s : List ℕ) (g : Game) (sides a b : ℕ → ℕ) (w : ℕ) (plan : ℕ → ℕ) (won : ℕ → Bool) (n : ℕ) → ReadsEnds s g → ((m : ℕ) → m < length g → sides m < 2) → WinsFromEnds g 0 a (λ m. (m < length g) × (sides m ≡ 0)) → WinsFromEnds g 1 b (λ m. (m < length g) × (sides m ≡ 1)) →
    w < 2 → WinsFromEnds g w plan (λ m. T (won m)) → n < length g → T (won n) → sides n ≡ w

-- what is made of a game with ends is a game without, in which the same plans win from the same places; and a game without ends is left as it is
pub record MadeSame : Type 0 where
  pub reads : (s : List ℕ) (g : Game) → ReadsEnds s g → Reads (length g ∷ row (made g)) (made g)
  pub wins : (s : List ℕ) (g : Game) (w : ℕ) (plan : ℕ → ℕ) (won : ℕ → Bool) → ReadsEnds s g → w < 2 → WinsFromEnds g w plan (λ m. T (won m)) ↔ WinsFrom (made g) w plan (λ m. T (won m))
  pub kept : (s : List ℕ) (g : Game) → Reads s g → ReadsEnds s g × (made g ≡ g)

pub record Parts : Type 0 where
  pub one_game : OneGameEnds
  pub not_both : NotBothEnds
  pub one_wins : OneWinsEnds
  pub each_is_won : EachIsWonEnds
  pub only_answer : OnlyAnswerEnds
  pub made_same : MadeSame

-- how many places the first word tells, or 16,384 where it tells more than a game may have
abbrev pub told : List ℕ → ℕ
told s = cond (nat_lt 16384 (slice_index s 0)) 16384 (slice_index s 0)

-- how many words have to be lent: the made words take up to one more for each place, and the solver works in the rest
abbrev pub needed : List ℕ → ℕ
needed s = 65536 + 5 * (length s + told s)

-- what each answer says
abbrev pub EndsSays : List ℕ → List ℕ → List ℕ → Result (Unit {0}) Refusal → Type 0
EndsSays s o o' (Ok u) = (g : Game) × ReadsEnds s g × (2 * length g ≤ length o) × ((n : ℕ) → n < length g → side o' n < 2) × WinsFromEnds g 0 (goes o') (λ n. (n < length g) × (side o' n ≡ 0)) × WinsFromEnds g 1 (goes o') (λ n. (n < length g) × (side o' n ≡ 1)) × (drop (2 * length g) o' ≡ drop (2 * length g) o)
EndsSays s o o' (Err OutFull) = (g : Game) × ReadsEnds s g × (length o < 2 * length g) × (o' ≡ o)
EndsSays s o o' (Err NoGame) = ((g : Game) → ReadsEnds s g → ⊥) × (o' ≡ o)
EndsSays s o o' (Err Few) = o' ≡ o
EndsSays s o o' (Err NoPlace) = ⊥

-- whatever plan wins for a side, from wherever, wins only places that the answer gives to that side
abbrev pub OnlyEnds : List ℕ → List ℕ → Result (Unit {0}) Refusal → Type 0
OnlyEnds s o' r = r ≡ Ok tt → (g : Game) (w : ℕ) (plan : ℕ → ℕ) (won : ℕ → Bool) (n : ℕ) → ReadsEnds s g → w < 2 → WinsFromEnds g w plan (λ m. T (won m)) → n < length g → T (won n) → side o' n ≡ w

-- `solve_with_ends`; words with a move at each place get the answer that `solve` promises of them
pub record EndsPost (s : List ℕ) (w : ℕ) (o o' : List ℕ) (r : Result (Unit {0}) Refusal) : Type 0 where
  pub says : EndsSays s o o' r
  pub few : (w < needed s) ↔ (r ≡ Err Few)
  pub only : OnlyEnds s o' r
  pub as_solve : (g : Game) → Reads s g → needed s ≤ w → SolvedPost s w o o' r
  pub parts : Parts

-- `without_ends`: the words of the game that is made of the one that the words are, or that they are none
abbrev pub WithoutSays : List ℕ → List ℕ → Result ℕ Refusal → Type 0
WithoutSays s t (Ok len) = (g : Game) × ReadsEnds s g × (len ≤ length t) × (take len t ≡ length g ∷ row (made g)) × Reads (take len t) (made g)
WithoutSays s t (Err NoGame) = (g : Game) → ReadsEnds s g → ⊥
WithoutSays s t (Err Few) = Unit {0}
WithoutSays s t (Err OutFull) = ⊥
WithoutSays s t (Err NoPlace) = ⊥

pub record WithoutPost (s : List ℕ) (w : ℕ) (t : List ℕ) (r : Result ℕ Refusal) : Type 0 where
  pub says : WithoutSays s t r
  pub few : (w < length s + told s) ↔ (r ≡ Err Few)
