-- A game in words as a graph: where each place's words start, and which places may move to a place.
use Rattle.std.specs.Prelude.{◌≡◌, ℕ, zero, suc, ◌+◌, ◌-◌, ◌*◌, ◌^◌, ◌<◌, ◌≤◌, cond, ◌↔◌, List, [], ◌∷◌, ◌++◌, map, length, take, drop, replicate, ◌==◌, slice_index, slice_index_or}
use Rattle.endless.specs.Games.{Place, Game, Among, May, nth, opt, row, whose, weight}
use Rattle.endless.specs.Sets.{In}
use Rattle.endless.specs.Bits.{members}
use Rattle.endless.specs.View.{words_of}

-- numbers that may take 64 bits, each in two words, the low one first
abbrev pub joined : List ℕ → ℕ
joined ws = slice_index ws 1 * 2 ^ 32 + slice_index ws 0

abbrev pub positions : List (List ℕ) → List ℕ
positions = map joined

-- the moves of a place
abbrev pub moves : Game → ℕ → List ℕ
moves g n = opt (nth g n) [] (λ p. p.moves)

-- i places read, up to the word at `at`: what is left are the words of the other places
pub record Reading (s : List ℕ) (g : Game) (i at : ℕ) : Type 0 where
  pub left : drop at s ≡ row (drop i g)
  pub bound : at ≤ length s

-- for each place where its words start, in the words of the game
pub record Placed (g : Game) (starts : List ℕ) : Type 0 where
  pub long : length starts ≡ length g
  pub at : (i : ℕ) → i < length g → Reading (words_of g) g i (slice_index starts i)

-- how often m stands in a list
abbrev pub times : ℕ → List ℕ → ℕ
times m [] = 0
times m (x ∷ xs) = cond (x == m) 1 0 + times m xs

-- how many moves lead to m, and how many there are in all
abbrev pub entering : List Place → ℕ → ℕ
entering [] m = 0
entering (p ∷ ps) m = times m p.moves + entering ps m

abbrev pub edges : List Place → ℕ
edges [] = 0
edges (p ∷ ps) = length p.moves + edges ps

-- the places, numbered from v, that may move to m, each as often as m stands among its moves
abbrev pub sources : ℕ → List Place → ℕ → List ℕ
sources v [] m = []
sources v (p ∷ ps) m = replicate (times m p.moves) v ++ sources (suc v) ps m

-- the sum of f 0 .. f (n - 1)
unfoldable pub upto : (ℕ → ℕ) → ℕ → ℕ
upto f zero = 0
upto f (suc n) = f n + upto f n

-- predecessor lists: that of m stands in `preds` from its offset to the next
pub record Listed (g : Game) (offsets preds : List ℕ) : Type 0 where
  pub long : length offsets ≡ length g + 1
  pub ordered : (m : ℕ) → m < length g → slice_index offsets m ≤ slice_index offsets (m + 1)
  pub bound : (m : ℕ) → m < length g → slice_index offsets (m + 1) ≤ length preds
  pub are : (m : ℕ) → m < length g → take (slice_index offsets (m + 1) - slice_index offsets m) (drop (slice_index offsets m) preds) ≡ sources 0 g m

-- the predecessors of m: a place stands among them as often as m stands among its moves, so exactly where it may move to m
pub record Preds (g : Game) (m : ℕ) (r : List ℕ) : Type 0 where
  pub are : r ≡ sources 0 g m
  pub often : (v : ℕ) → times v r ≡ times m (moves g v)
  pub may : (v : ℕ) → Among v r ↔ May g v m

-- predecessor lists that grow to the front: f tells how long each will be, and D what stands in it
pub record Filling (f : ℕ → ℕ) (n : ℕ) (ends preds : List ℕ) (D : ℕ → List ℕ) : Type 0 where
  pub many : (m : ℕ) → m < n → slice_index ends m + length (D m) ≡ upto f (suc m)
  pub last : slice_index_or ends n 0 ≡ upto f n
  pub held : (m k : ℕ) → m < n → k < length (D m) → slice_index preds (slice_index ends m + k) ≡ slice_index (D m) k

-- there is room for one more entry in the list of each of these moves
pub record Room (f : ℕ → ℕ) (n : ℕ) (targets ends preds : List ℕ) (D : ℕ → List ℕ) : Type 0 where
  pub long : length ends ≡ n + 1
  pub top : upto f n ≤ length preds
  pub within : (k : ℕ) → k < length targets → slice_index targets k < n
  pub space : (m : ℕ) → m < n → upto f m + (times m targets + length (D m)) ≤ upto f (suc m)

-- each count is larger by how often its place stands among these
abbrev pub Counts : List ℕ → List ℕ → List ℕ → Type 0
Counts counts targets r = (m : ℕ) → slice_index r m ≡ slice_index counts m + times m targets

-- v stands in front of the list of each of these, as often as each stands there
abbrev pub Entered : List ℕ → ℕ → List ℕ → List ℕ → List ℕ → List ℕ → Type 0
Entered targets v ends preds ends' preds' =
    (f : ℕ → ℕ) (n : ℕ) (D : ℕ → List ℕ) → Filling f n ends preds D → Room f n targets ends preds D
    → Filling f n ends' preds' (λ m. replicate (times m targets) v ++ D m)

-- offsets and words for predecessor lists in which nothing stands yet: each list's end, and room for all
pub record Ready (g : Game) (ends preds : List ℕ) : Type 0 where
  pub long : length ends ≡ length g + 1
  pub sums : (m : ℕ) → m < length g + 1 → slice_index ends m ≡ upto (entering g) (suc m)
  pub top : edges g ≤ length preds

-- a set has a side's places of the first k, and no others
abbrev pub OwnTo : Game → ℕ → ℕ → List ℕ → Type 0
OwnTo g w k own = (n : ℕ) → (In (members own) n ↔ ((n < k) × (whose g n ≡ w)))

-- the weights of the first k places stand in the words, which are no greater than weights are
abbrev pub WeightsTo : Game → ℕ → List ℕ → Type 0
WeightsTo g k weights = (n : ℕ) → n < k → (slice_index weights n ≡ weight g n) × (slice_index weights n < 256)

-- a set of all places of a side, with room for all of the game's
pub record Own (g : Game) (w : ℕ) (own : List ℕ) : Type 0 where
  pub wide : length g ≤ 32 * length own
  pub are : OwnTo g w (length g) own

-- each side's places, and all weights, in words of their own
pub record Noted (g : Game) (even odd weights : List ℕ) : Type 0 where
  pub of_even : Own g 0 even
  pub of_odd : Own g 1 odd
  pub long : length g ≤ length weights
  pub weigh : WeightsTo g (length g) weights
