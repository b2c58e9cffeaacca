-- How a name is written.
use Rattle.std.specs.Prelude.{◌≡◌, ℕ, ◌<◌, ◌≤◌, Bool, false, cond, not, ◌&&◌, ◌||◌, List, [], ◌∷◌, ◌++◌, length, ◌==◌}
use Rattle.std.specs.Char.{encode_utf8}
use Rattle.std.specs.List.{position_or_len}
use Rattle.drawing.specs.Form.{stops, dash, control_within, word, pieces}

-- a quote and a backslash are written behind a backslash
abbrev pub special : ℕ → Bool
special b = b == 34 || b == 92

abbrev pub escaped : List ℕ → List ℕ
escaped [] = []
escaped (b ∷ bs) = cond (special b) (92 ∷ b ∷ escaped bs) (b ∷ escaped bs)

-- a name may stand bare if nothing in it ends a bare word
abbrev pub plainly : List ℕ → Bool
plainly n = not (length n == 0) && (position_or_len stops n == length n && not (dash n))

abbrev pub marked : ℕ → List ℕ
marked c = cond (special c) (92 ∷ encode_utf8 c) (encode_utf8 c)

abbrev pub in_quotes : List ℕ → List ℕ
in_quotes n = 34 ∷ (escaped n ++ (34 ∷ []))

abbrev pub spelling : List ℕ → List ℕ
spelling n = cond (plainly n) n (in_quotes n)

-- a name: 1 to 64 bytes, no control character
pub record IsName (n : List ℕ) : Type 0 where
  pub some : 0 < length n
  pub short : length n ≤ 64
  pub clear : control_within false n ≡ false

-- what is written is one word that means the name
abbrev pub Means : List ℕ → List ℕ → Type 0
Means n bs = (quoted : Bool) × (pieces bs ≡ word quoted n ∷ [])
