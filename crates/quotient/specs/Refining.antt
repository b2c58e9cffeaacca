-- Places parted by side, weight and the parts that they may move into, in rounds.
use Rattle.std.specs.Prelude.{◌≡◌, ℕ, suc, ◌+◌, ◌*◌, ◌%◌, ◌<◌, ◌≤◌, Bool, T, List, [], ◌∷◌, length, slice_index}
use Rattle.endless.specs.Games.{Game, whose, weight}
use Rattle.endless.specs.Graph.{moves}
use Rattle.endless.specs.View.{Playable}
use Rattle.quotient.specs.Alike.{Bisimulation}
use Rattle.quotient.specs.Gathering.{Into}

-- the part of a place, told by its number
abbrev pub part : List ℕ → ℕ → ℕ
part parts n = slice_index parts n

-- for each place its part; the parts have room in a set of so many words
pub record InParts (g : Game) (parts : List ℕ) (words : ℕ) : Type 0 where
  pub playable : Playable g
  pub long : length parts ≡ length g
  pub below : (n : ℕ) → n < length g → part parts n < length g
  pub room : length g ≤ 32 * words

-- for each place its part, told by the first place of it
pub record Parted (g : Game) (parts : List ℕ) (words : ℕ) : Type 0 where
  pub playable : Playable g
  pub long : length parts ≡ length g
  pub low : (n : ℕ) → n < length g → part parts n ≤ n
  pub lead : (n : ℕ) → n < length g → part parts (part parts n) ≡ part parts n
  pub room : length g ≤ 32 * words

-- m may move into each part that n may move into
abbrev pub Leads : Game → List ℕ → ℕ → ℕ → Type 0
Leads g parts n m = (q : ℕ) → Into (moves g n) parts q → Into (moves g m) parts q

-- two places that the parts do not tell apart
pub record Same (g : Game) (parts : List ℕ) (n m : ℕ) : Type 0 where
  pub owns : whose g n ≡ whose g m
  pub weighs : weight g n ≡ weight g m
  pub one_part : part parts n ≡ part parts m
  pub there : Leads g parts n m
  pub back : Leads g parts m n

-- the greatest of what a list says of each of these
abbrev pub greatest : (ℕ → ℕ) → List ℕ → ℕ
greatest f [] = 0
greatest f (x ∷ xs) = Prim.Native.Nat.max (f x) (greatest f xs)

-- the number to which a factor scatters a part
abbrev pub scattered : ℕ → ℕ → ℕ
scattered factor q = q * factor % 65521

-- where to look for a place's part, of so many buckets: places that are not told apart are looked for in the same one
abbrev pub bucket : Game → List ℕ → ℕ → ℕ → ℕ
bucket g parts many n = (31 * part parts n + 1021 * weight g n + 65599 * greatest (λ m. scattered 40503 (part parts m)) (moves g n) + 257 * greatest (λ m. scattered 30011 (part parts m)) (moves g n) + 8191 * greatest (λ m. scattered 12289 (part parts m)) (moves g n)) % many

-- of the places of a list, told by where they stand in it
abbrev pub Alike : Game → List ℕ → List ℕ → ℕ → ℕ → Type 0
Alike g parts list n m = Same g parts (slice_index list n) (slice_index list m)

abbrev pub look : Game → List ℕ → List ℕ → ℕ → ℕ
look g parts list n = bucket g parts (length list) (slice_index list n)

-- a chain of places begins at a link, which is one more than the place, or 0 at the end; a place stands in it
pub data Linked (links : List ℕ) : ℕ → ℕ → Type 0 where
  here : {n : ℕ} → Linked links (suc n) n
  next : {k n : ℕ} → Linked links (slice_index links k) n → Linked links (suc k) n

-- each place's link leads down
abbrev pub Descends : List ℕ → Type 0
Descends links = (k : ℕ) → slice_index links k ≤ k

-- the first places of a list put into groups: each into that of the first from which the parts do not tell it apart; those stand in the chains of their buckets
pub record Grouping (g : Game) (parts list made heads links : List ℕ) (i : ℕ) : Type 0 where
  pub low : (n : ℕ) → n < i → part made n ≤ n
  pub lead : (n : ℕ) → n < i → part made (part made n) ≡ part made n
  pub same : (n : ℕ) → n < i → Alike g parts list n (part made n)
  pub apart : (l n : ℕ) → l < n → n < i → part made l ≡ l → part made n ≡ n → Alike g parts list n l → ⊥
  pub linked : (l : ℕ) → l < i → part made l ≡ l → Linked links (slice_index heads (look g parts list l)) l
  pub chained : (b l : ℕ) → b < length list → Linked links (slice_index heads b) l → (l < i) × (part made l ≡ l)
  pub starts : (b : ℕ) → b < length list → slice_index heads b ≤ i
  pub descends : Descends links

-- the groups are those of the places that the parts do not tell apart
pub record Grouped (g : Game) (parts list made : List ℕ) : Type 0 where
  pub low : (n : ℕ) → n < length list → part made n ≤ n
  pub lead : (n : ℕ) → n < length list → part made (part made n) ≡ part made n
  pub same : (n : ℕ) → n < length list → Alike g parts list n (part made n)
  pub one : (n m : ℕ) → n < length list → m < length list → Alike g parts list n m → part made n ≡ part made m

-- places that are alike are in one part
abbrev pub Sound : Game → List ℕ → Type 0
Sound g parts = (R : ℕ → ℕ → Bool) (n m : ℕ) → Bisimulation g R → n < length g → m < length g → T (R n m) → part parts n ≡ part parts m

-- places of one part are not told apart
abbrev pub Stable : Game → List ℕ → Type 0
Stable g parts = (n m : ℕ) → n < length g → m < length g → part parts n ≡ part parts m → Same g parts n m
