-- A game and its answer as a text for Graphviz.
use Rattle.std.specs.Prelude.{ℕ, ◌+◌, ◌*◌, Bool, false, cond, ◌&&◌, List, [], ◌∷◌, ◌++◌, length, codes, flat_map, ◌==◌, slice_index, slice_index_or}
use Rattle.std.specs.List.{concat, range_with_len}
use Rattle.std.specs.Fmt.{decimal}
use Rattle.endless.specs.Games.{Game, nth, opt, whose, weight}
use Rattle.endless.specs.Graph.{moves}
use Rattle.endless.specs.Says.{side}
use Rattle.moves.specs.Moves.{mark}
use Rattle.moves.specs.Marking.{before}
use Rattle.dot.specs.Labels.{escaped}
use Rattle.dot.specs.declared.bold.Bold.{Bold}
use Rattle.dot.specs.declared.bold.Bold.TheVariants.{Plan, Marks}

-- what stands before the places, up to what bold moves are: what the picture's forms and colours say
abbrev pub legend : List ℕ
legend =
    codes "strict digraph game {\n"
    ++ codes "  graph [fontname=\"Helvetica\", fontsize=12, nodesep=0.3, ranksep=0.45, labelloc=t, label=\"Diamonds: side 0 moves; boxes: side 1 moves. A name, and below it the weight.\\nBlue, solid: side 0 wins; orange, dashed: side 1 wins. Bold: "

-- what stands behind that: how all places and moves look
abbrev pub styles : List ℕ
styles =
    codes ".\"];\n"
    ++ codes "  node [fontname=\"Helvetica\", fontsize=14, margin=\"0.06,0.04\", penwidth=1.5];\n"
    ++ codes "  edge [arrowsize=0.8];\n"

unfoldable pub head : List ℕ → List ℕ
head bolds = legend ++ (bolds ++ styles)

-- whose move it is by the shape
abbrev pub shape : ℕ → List ℕ
shape w = cond (w == 0) (codes "diamond") (codes "box")

-- who wins by colour and line; nothing where the answer gives the place to neither side
abbrev pub look : ℕ → List ℕ
look w = cond (w == 0) (codes ", style=filled, fillcolor=\"#c6dbef\"") (cond (w == 1) (codes ", style=\"filled,dashed\", fillcolor=\"#fdd0a2\"") [])

-- how bold a move is
abbrev pub stroke : Bool → List ℕ
stroke p = cond p (codes " [penwidth=3]") []

-- the side that wins place n is to move there, and its plan goes to m
abbrev pub planned : Game → List ℕ → ℕ → ℕ → Bool
planned g o n m = (whose g n == side o n) && opt (nth o (2 * n + 1)) false (λ to. to == m)

-- what the picture says that bold moves are
abbrev pub told : Bold → List ℕ
told Plan = codes "the winner's plan"
told (Marks o) = codes "each move that some winning plan makes"

-- the words that mark moves
abbrev pub mark_words : Bold → List ℕ
mark_words Plan = []
mark_words (Marks o) = o.now

-- whether a move from n to m is bold: it is planned, or its mark is 1
abbrev pub is_bold : Bold → Game → List ℕ → ℕ → ℕ → ℕ → Bool
is_bold Plan g o n m k = planned g o n m
is_bold (Marks ms) g o n m k = k == 1

-- whether the move of place n with the number i is bold
abbrev pub bold : Bold → Game → List ℕ → ℕ → ℕ → Bool
bold b g o n i = is_bold b g o n (slice_index (moves g n) i) (mark g (mark_words b) (before g n + i))

-- the move from n to m, bold or not
abbrev pub edge_line : ℕ → ℕ → Bool → List ℕ
edge_line n m b = concat (codes "  n" ∷ decimal n ∷ codes " -> n" ∷ decimal m ∷ stroke b ∷ codes ";\n" ∷ [])

-- the moves of a place, where `test` says of each of a place's moves, by its number there, whether it is bold
abbrev pub edge_at : (ℕ → ℕ → Bool) → Game → ℕ → ℕ → List ℕ
edge_at test g n i = edge_line n (slice_index (moves g n) i) (test n i)

abbrev pub edge_lines : (ℕ → ℕ → Bool) → Game → ℕ → List ℕ
edge_lines test g n = flat_map (edge_at test g n) (range_with_len 0 (length (moves g n)))

-- a place without its moves: its number, and what is told of it
abbrev pub node_text : ℕ → List ℕ → List ℕ → ℕ → List ℕ → List ℕ
node_text n form name weighs looks =
    concat (codes "  n" ∷ decimal n ∷ codes " [shape=" ∷ form ∷ codes ", label=\"" ∷ escaped name ∷ codes "\\n" ∷ decimal weighs ∷ codes "\"" ∷ looks ∷ codes "];\n" ∷ [])

unfoldable pub node_line : Game → List (List ℕ) → List ℕ → ℕ → List ℕ
node_line g names o n = node_text n (shape (whose g n)) (slice_index_or names n []) (weight g n) (look (side o n))

-- a place, and behind it its moves
abbrev pub place_lines : (ℕ → ℕ → Bool) → Game → List (List ℕ) → List ℕ → ℕ → List ℕ
place_lines test g names o n = node_line g names o n ++ edge_lines test g n

-- a game, what its places are called, and an answer; which moves are bold, and what the picture says that they are
abbrev pub picture : List ℕ → (ℕ → ℕ → Bool) → Game → List (List ℕ) → List ℕ → List ℕ
picture bolds test g names o = head bolds ++ flat_map (place_lines test g names o) (range_with_len 0 (length g)) ++ codes "}\n"
