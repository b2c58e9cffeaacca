-- A game in PGSolver's form.
use Rattle.std.specs.Prelude.{◌≡◌, ℕ, zero, suc, ◌<◌, cond, List, [], ◌∷◌, ◌++◌, map, length, Ok, ◌==◌, codes, decimal, slice_index, slice_index_or}
use Rattle.std.specs.List.{flat_map}
use Rattle.std.specs.Str.{is_utf8}
use Rattle.endless.specs.Games.{Game, whose, weight}
use Rattle.endless.specs.Graph.{moves}
use Rattle.endless.specs.Sides.{number}
use Rattle.pgsolver.specs.Form.{Entry, entries}
use Rattle.pgsolver.specs.Ids.{highest}

-- a name holds no double quote: a single one stands for it
abbrev pub single : ℕ → ℕ
single b = cond (b == 34) 39 b

-- the name as it is written; one that is no text is left out
abbrev pub written_name : List ℕ → List ℕ
written_name name = cond (is_utf8 name) (map single name) []

-- "NAME", with a blank before it, or nothing where there is no name
abbrev pub name_text : List ℕ → List ℕ
name_text [] = []
name_text (b ∷ bs) = codes " \"" ++ ((b ∷ bs) ++ codes "\"")

-- SUCC,SUCC,..
abbrev pub successors_text : List ℕ → List ℕ
successors_text [] = []
successors_text (x ∷ xs) = decimal x ++ flat_map (λ y. codes "," ++ decimal y) xs

-- ID PRIORITY OWNER SUCC,SUCC,.. "NAME";
abbrev pub node_text : ℕ → ℕ → ℕ → List ℕ → List ℕ → List ℕ
node_text id priority owner goes name =
    decimal id ++ (codes " " ++ (decimal priority ++ (codes " " ++ (decimal owner ++ (codes " " ++ (successors_text goes ++ (name_text name ++ codes ";\n")))))))

-- the ids of the successors of place n
abbrev pub successors : List ℕ → Game → ℕ → List ℕ
successors ids g n = map (slice_index ids) (moves g n)

-- the line of place n
abbrev pub place_text : List ℕ → List (List ℕ) → Game → ℕ → List ℕ
place_text ids names g n = node_text (slice_index ids n) (weight g n) (whose g n) (successors ids g n) (written_name (slice_index_or names n []))

-- the lines of the first n places
abbrev pub place_texts : List ℕ → List (List ℕ) → Game → ℕ → List ℕ
place_texts ids names g zero = []
place_texts ids names g (suc n) = place_texts ids names g n ++ place_text ids names g n

-- parity N; and the lines of all places
abbrev pub game_text : List ℕ → List (List ℕ) → Game → List ℕ
game_text ids names g = codes "parity " ++ (decimal (highest ids) ++ (codes ";\n" ++ place_texts ids names g (length g)))

-- a node that says of place n its id, its weight, whose it is, the ids of its successors, and its name as it is written
pub record SaysPlace (ids : List ℕ) (names : List (List ℕ)) (g : Game) (n : ℕ) (e : Entry) : Type 0 where
  pub id : e.first.id ≡ slice_index ids n
  pub priority : e.first.priority ≡ weight g n
  pub owner : number e.first.owner ≡ whose g n
  pub goes : e.goes ≡ successors ids g n
  pub named : e.named ≡ written_name (slice_index_or names n [])

-- the text reads as one such node for each place, in their order
pub record ReadsBack (text : List ℕ) (ids : List ℕ) (names : List (List ℕ)) (g : Game) : Type 0 where
  pub nodes : List Entry
  pub said : entries text ≡ Ok nodes
  pub as_many : length nodes ≡ length g
  pub says : (n : ℕ) (d : Entry) → n < length g → SaysPlace ids names g n (slice_index_or nodes n d)
