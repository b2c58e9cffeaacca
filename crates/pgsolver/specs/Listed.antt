-- A text and the game that it lists.
use Rattle.std.specs.Prelude.{◌≡◌, ℕ, ◌+◌, ◌-◌, ◌<◌, Bool, T, ◌↔◌, List, [], ◌∷◌, map, length, take, count_by, Ok, Err, vec_items, Result, Vec, ◌==◌, slice_index, slice_index_or}
use Rattle.std.specs.declared.alloc.Global.{Global}
use Rattle.endless.specs.Games.{Game, Reads}
use Rattle.endless.specs.Says.{WinsFrom}
use Rattle.pgsolver.specs.declared.refusal.Refusal.{Refusal}
use Rattle.pgsolver.specs.declared.refusal.Refusal.TheVariants.{Fault, Twice, Unknown, TooManyPriorities, TooLong, NoNodes, Memory}
use Rattle.pgsolver.specs.declared.wrong.Wrong.{Wrong}
use Rattle.pgsolver.specs.declared.Listing.{Listing}
use Rattle.pgsolver.specs.declared.Named.{Named}
use Rattle.pgsolver.specs.declared.wrong.Wrong.TheVariants as wrong
use Rattle.pgsolver.specs.Form.{Entry, ids_in, priorities_in, entries}
use Rattle.pgsolver.specs.Table.{Apart}
use Rattle.pgsolver.specs.Weights.{Below, Keeps, Fitted, Alike, weights_of, NoRoom}
use Rattle.pgsolver.specs.Wrongs.{Missing, Again, SomeOf, Places, Played}

-- line feeds
abbrev pub feeds : List ℕ → ℕ
feeds bs = count_by (λ b. b == 10) bs

-- the line, from 1, where so many bytes are left
abbrev pub line_at : List ℕ → ℕ → ℕ
line_at text left = feeds (take (length text - left) text) + 1

-- the line of node n
abbrev pub line_of : List ℕ → List Entry → ℕ → ℕ
line_of text es n = line_at text (slice_index (map (λ e. e.left) es) n)

pub record Assembles (es : List Entry) (words : List ℕ) : Type 0 where
  pub ws : List ℕ
  pub different : Apart (ids_in es)
  pub fitted : Fitted (priorities_in es) ws
  pub played : Played (ids_in es) es ws (length es ∷ []) words

abbrev pub Unassembled : List Entry → Wrong → Type 0
Unassembled es (wrong.Twice n) = Again (ids_in es) n
Unassembled es (wrong.Unknown n x) = (n < length es) × SomeOf (slice_index_or (map (λ e. e.goes) es) n []) x × Missing (ids_in es) x
Unassembled es (wrong.Priority n) = NoRoom (priorities_in es) n
Unassembled es wrong.Memory = Unit {0}

-- the node that is wrong is one of them
abbrev pub Inside : List Entry → Wrong → Type 0
Inside es (wrong.Twice n) = n < length es
Inside es (wrong.Unknown n x) = n < length es
Inside es (wrong.Priority n) = n < length es
Inside es wrong.Memory = Unit {0}

abbrev pub Assembled : List Entry → Result (Vec ℕ Global) Wrong → Type 0
Assembled es (Ok v) = Assembles es (vec_items v)
Assembled es (Err w) = Unassembled es w

-- the text lists the game of these words, whose places have these ids and names; whole is the game with the priorities as they are written
pub record Listed (text : List ℕ) (ids : List ℕ) (names : List (List ℕ)) (words : List ℕ) : Type 0 where
  pub nodes : List Entry
  pub said : entries text ≡ Ok nodes
  pub game : Game
  pub reads : Reads words game
  pub many : length ids ≡ length game
  pub are : ids ≡ ids_in nodes
  pub named : names ≡ map (λ e. e.named) nodes
  pub different : Apart ids
  pub whole : Game
  pub places : Places ids nodes whole
  pub alike : Alike whole game
  pub keeps : Keeps (weights_of whole) (weights_of game)
  pub plain : Below 256 (weights_of whole) → weights_of game ≡ weights_of whole
  pub wins : (w : ℕ) (plan : ℕ → ℕ) (won : ℕ → Bool) → WinsFrom whole w plan (λ n. T (won n)) ↔ WinsFrom game w plan (λ n. T (won n))

-- places with the ids and the names of the nodes
pub record NamedAs (es : List Entry) (places : List Named) : Type 0 where
  pub ids : map (λ p. p.id) places ≡ ids_in es
  pub names : map (λ p. vec_items p.name) places ≡ map (λ e. e.named) es

abbrev pub listed_ids : Listing → List ℕ
listed_ids l = map (λ p. p.id) (vec_items l.places)

abbrev pub listed_names : Listing → List (List ℕ)
listed_names l = map (λ p. vec_items p.name) (vec_items l.places)

-- what a refusal says of the text
abbrev pub Says : List ℕ → Refusal → Type 0
Says text (Fault line f) = (left : ℕ) × (entries text ≡ Err (record { fault = f; left = left })) × (line ≡ line_at text left)
Says text (Twice line id) = (es : List Entry) × (n : ℕ) × (entries text ≡ Ok es) × Again (ids_in es) n × (id ≡ slice_index (ids_in es) n) × (line ≡ line_of text es n)
Says text (Unknown line id) = (es : List Entry) × (n : ℕ) × (entries text ≡ Ok es) × (n < length es) × SomeOf (slice_index_or (map (λ e. e.goes) es) n []) id × Missing (ids_in es) id × (line ≡ line_of text es n)
Says text (TooManyPriorities line) = (es : List Entry) × (n : ℕ) × (entries text ≡ Ok es) × NoRoom (priorities_in es) n × (line ≡ line_of text es n)
Says text TooLong = 1048576 < length text
Says text NoNodes = entries text ≡ Ok []
Says text Memory = Unit {0}
