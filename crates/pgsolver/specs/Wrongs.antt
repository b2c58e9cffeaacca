-- What is wrong with nodes, and the words that they make where nothing is.
use Rattle.std.specs.Prelude.{◌≡◌, ℕ, ◌<◌, ◌≤◌, true, List, [], ◌∷◌, ◌++◌, map, length, Ok, Err, vec_items, Result, Vec, ◌≢◌, slice_index, slice_index_or}
use Rattle.std.specs.declared.alloc.Global.{Global}
use Rattle.endless.specs.Games.{Place, Game, below, ok_ps, row as words}
use Rattle.endless.specs.Sides.{number}
use Rattle.pgsolver.specs.declared.weights.NoWeights.{NoWeights}
use Rattle.pgsolver.specs.declared.weights.NoWeights.TheVariants as weights
use Rattle.pgsolver.specs.declared.wrong.Wrong.{Wrong}
use Rattle.pgsolver.specs.declared.wrong.Wrong.TheVariants.{Twice, Unknown, Priority, Memory}
use Rattle.pgsolver.specs.Form.{Entry, ids_in}
use Rattle.pgsolver.specs.Weights.{Below, Alike, weights_of}
use Rattle.pgsolver.specs.Table.{Apart}

abbrev pub Missing : List ℕ → ℕ → Type 0
Missing ids x = (i : ℕ) → i < length ids → slice_index ids i ≢ x

-- number n is one before it once more
abbrev pub Again : List ℕ → ℕ → Type 0
Again ids n = (n < length ids) × ((i : ℕ) × (i < n) × (slice_index ids i ≡ slice_index ids n))

abbrev pub Indexed : List Entry → Result (List ℕ) Wrong → Type 0
Indexed es (Ok ids) = (ids ≡ ids_in es) × Apart ids
Indexed es (Err (Twice n)) = Again (ids_in es) n
Indexed es (Err (Unknown n x)) = ⊥
Indexed es (Err (Priority n)) = ⊥
Indexed es (Err Memory) = Unit {0}

-- what is wrong where there are no weights
abbrev pub unweighed : NoWeights → Wrong
unweighed (weights.TooMany n) = Priority n
unweighed weights.Memory = Memory

-- numbers of places, each of the id that is written
pub record Gone (ids goes acc new : List ℕ) : Type 0 where
  pub to : List ℕ
  pub is : new ≡ acc ++ to
  pub reads : map (λ i. slice_index ids i) to ≡ goes
  pub low : below (length ids) to ≡ true

abbrev pub SomeOf : List ℕ → ℕ → Type 0
SomeOf goes x = (k : ℕ) × (k < length goes) × (slice_index goes k ≡ x)

abbrev pub Went : List ℕ → List ℕ → ℕ → List ℕ → List ℕ → Result (Unit {0}) Wrong → Type 0
Went ids goes n acc new (Ok u) = Gone ids goes acc new
Went ids goes n acc new (Err (Unknown m x)) = (m ≡ n) × SomeOf goes x × Missing ids x
Went ids goes n acc new (Err (Twice m)) = ⊥
Went ids goes n acc new (Err (Priority m)) = ⊥
Went ids goes n acc new (Err Memory) = Unit {0}

-- what each node has: a successor at least, and not too many
pub record Fine (e : Entry) : Type 0 where
  pub some : 0 < length e.goes
  pub few : length e.goes ≤ 64000

abbrev pub FineAll : List Entry → Type 0
FineAll [] = Unit {0}
FineAll (e ∷ es) = Fine e × FineAll es

-- nodes with weights, ready to be written
pub record Ready (ws : List ℕ) (es : List Entry) : Type 0 where
  pub fine : FineAll es
  pub weighed : length ws ≡ length es
  pub low : Below 256 ws
  pub few : length es ≤ 16384

-- the place is as its node says: whose it is, the priority, and successor by successor the id of where it goes
pub record Placed (ids : List ℕ) (e : Entry) (p : Place) : Type 0 where
  pub owns : p.whose ≡ number e.first.owner
  pub heavy : p.weight ≡ e.first.priority
  pub moved : map (λ i. slice_index ids i) p.moves ≡ e.goes

abbrev pub Places : List ℕ → List Entry → Game → Type 0
Places ids [] [] = Unit {0}
Places ids [] (p ∷ ps) = ⊥
Places ids (e ∷ es) [] = ⊥
Places ids (e ∷ es) (p ∷ ps) = Placed ids e p × Places ids es ps

-- the words of a game written behind acc: whole is the game with the priorities as they are written, game the one with the weights ws
pub record Played (ids : List ℕ) (es : List Entry) (ws acc new : List ℕ) : Type 0 where
  pub whole : Game
  pub game : Game
  pub is : new ≡ acc ++ words game
  pub ok : ok_ps (length ids) game ≡ true
  pub alike : Alike whole game
  pub weighs : weights_of game ≡ ws
  pub places : Places ids es whole

abbrev pub Worded : List ℕ → List Entry → List ℕ → Result (Vec ℕ Global) Wrong → Type 0
Worded ids es ws (Ok v) = Played ids es ws (length es ∷ []) (vec_items v)
Worded ids es ws (Err (Unknown n x)) = (n < length es) × SomeOf (slice_index_or (map (λ e. e.goes) es) n []) x × Missing ids x
Worded ids es ws (Err (Twice n)) = ⊥
Worded ids es ws (Err (Priority n)) = ⊥
Worded ids es ws (Err Memory) = Unit {0}
