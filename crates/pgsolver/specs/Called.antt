-- What places are called.
use Rattle.std.specs.Prelude.{◌≡◌, ℕ, ◌<◌, Bool, cond, not, ◌&&◌, List, [], length, ◌==◌, nat_le, count_by, vec_items, decimal, slice_index, slice_index_or}
use Rattle.std.specs.Borrow.{Bor}
use Rattle.std.specs.BTreeMap.{BTreeMap, get_by}
use Rattle.std.specs.Char.{is_ascii_digit, is_control}
use Rattle.std.specs.Cmp.Lexicographic.{slice_cmp}
use Rattle.std.specs.List.{list_all, list_any}
use Rattle.std.specs.Option.{unwrap_or}
use Rattle.std.specs.Ordering.{nat_cmp}
use Rattle.std.specs.Str.{bytes_eq, chars, is_utf8}
use Rattle.pgsolver.specs.declared.Named.{Named}

-- how many places have this name
abbrev pub bearers : List Named → List ℕ → ℕ
bearers places name = count_by (λ p. bytes_eq name (vec_items p.name)) places

-- the map has for each name how many places have it, and nothing where none has it
abbrev pub Counts : BTreeMap (Bor (List ℕ)) ℕ → List Named → Type 0
Counts m places = (name : List ℕ) → unwrap_or (get_by (λ k. slice_cmp nat_cmp name k.now) m) 0 ≡ bearers places name

-- the name has digits alone, or nothing
abbrev pub digits_alone : List ℕ → Bool
digits_alone name = list_all is_ascii_digit name

-- a name that a drawing may have too: 64 bytes at most, and no control characters
abbrev pub common : List ℕ → Bool
common name = nat_le (length name) 64 && not (list_any is_control (chars name))

-- a name tells which place is meant: it is text, has more than digits, which an id has, one place has it, and a drawing may have it
abbrev pub tells : List Named → List ℕ → Bool
tells places name = is_utf8 name && (not (digits_alone name) && ((bearers places name == 1) && common name))

-- what a place is called: its name, if that tells which place is meant, else its id
abbrev pub called : List Named → Named → List ℕ
called places p = cond (tells places (vec_items p.name)) (vec_items p.name) (decimal p.id)

-- places that are called the same have the same id
abbrev pub ToldApart : List ℕ → List (List ℕ) → Type 0
ToldApart ids names = (i j : ℕ) → i < length names → j < length names → slice_index_or names i [] ≡ slice_index_or names j [] → slice_index ids i ≡ slice_index ids j
