-- What a text shows: a game, and what its places are called.
use Rattle.std.specs.Prelude.{◌≡◌, ℕ, ◌<◌, ◌^◌, List, map, length, IsUtf8, vec_items, string_bytes, slice_index, Option, String}
use Rattle.pgsolver.specs.declared.Named.{Named}
use Rattle.drawing.specs.declared.kind.Kind.{Kind}
use Rattle.drawing.specs.Drawn.{Drawn}
use Rattle.drawing.specs.declared.refusal.Fault.TheVariants.{NoMoves}
use Rattle.drawing.specs.declared.refusal.Refusal.TheVariants.{Fault}
use Rattle.drawing.specs.Wrong as drawing
use Rattle.std.specs.declared.alloc.Global.{Global}
use Rattle.pgsolver.specs.Called.{called, ToldApart}
use Rattle.pgsolver.specs.Ids.{ids_of, names_of}
use Rattle.pgsolver.specs.Listed as pgsolver
use Rattle.pgsolver.specs.Listed.{Listed}
use Rattle.forms.specs.declared.form.Form.{Form}
use Rattle.forms.specs.declared.form.Form.TheVariants as form
use Rattle.forms.specs.declared.source.Labels.{Labels}
use Rattle.forms.specs.declared.source.Labels.TheVariants.{Names, Nodes}
use Rattle.forms.specs.declared.source.Source.{Source}
use Rattle.forms.specs.declared.unread.Refused.{Refused}
use Rattle.forms.specs.declared.unread.Refused.TheVariants as refused
use Rattle.forms.specs.declared.unread.Unread.{Unread}
use Rattle.forms.specs.declared.unread.Unread.TheVariants as unread

-- the text shows the game of these words, whose places have these labels; a drawing may be of a game with ends
abbrev pub ShowsBy : Kind → List ℕ → List ℕ → Labels → Type 0
ShowsBy k text words (Names v) = Drawn k text (map string_bytes (vec_items v)) words
ShowsBy k text words (Nodes v) = Listed text (ids_of (vec_items v)) (names_of (vec_items v)) words

abbrev pub Shows : Kind → List ℕ → Source → Type 0
Shows k text s = ShowsBy k text (vec_items s.words) s.labels

-- the labels are those of the form
abbrev pub LabelledAs : Form → Labels → Type 0
LabelledAs form.Drawing (Names v) = Unit {0}
LabelledAs form.Drawing (Nodes v) = ⊥
LabelledAs form.Pgsolver (Names v) = ⊥
LabelledAs form.Pgsolver (Nodes v) = Unit {0}

-- what a refusal says of the text
abbrev pub Says : Kind → List ℕ → Refused → Type 0
Says k text (refused.Drawing r) = drawing.Says k text r
Says k text (refused.Pgsolver r) = pgsolver.Says text r

-- an error of the reader and want of memory say nothing of the bytes
abbrev pub Tells : Kind → List ℕ → Unread → Type 0
Tells k bytes (unread.Io e) = Unit {0}
Tells k bytes unread.NotText = IsUtf8 bytes → ⊥
Tells k bytes (unread.Refused r line) = Says k bytes r
Tells k bytes unread.Memory = Unit {0}

-- a drawing is refused for a place without moves
abbrev pub LacksMoves : Unread → Type 0
LacksMoves w = (line : ℕ) × (shown : Option (String Global)) × (w ≡ unread.Refused (refused.Drawing (Fault line NoMoves)) shown)

-- what is told where there is no text
abbrev pub TellsNoText : List ℕ → Unread → Type 0
TellsNoText bytes (unread.Io e) = Unit {0}
TellsNoText bytes unread.NotText = IsUtf8 bytes → ⊥
TellsNoText bytes (unread.Refused r line) = ⊥
TellsNoText bytes unread.Memory = Unit {0}

-- nodes with these names, numbered from 0
pub record Numbered (names : List (List ℕ)) (ps : List Named) : Type 0 where
  pub named : names_of ps ≡ names
  pub counted : (i : ℕ) → i < length ps → i < 2 ^ 32 → slice_index (ids_of ps) i ≡ i

-- the nodes of labels: those that were read, or the names of a drawing numbered
abbrev pub NodesOf : Labels → List Named → Type 0
NodesOf (Names v) ps = Numbered (map string_bytes (vec_items v)) ps
NodesOf (Nodes v) ps = ps ≡ vec_items v

-- what the places are called: the names of a drawing, or what tells the nodes apart
abbrev pub NamesOf : Labels → List (List ℕ) → Type 0
NamesOf (Names v) names = names ≡ map string_bytes (vec_items v)
NamesOf (Nodes v) names = (names ≡ map (called (vec_items v)) (vec_items v)) × ToldApart (ids_of (vec_items v)) names
