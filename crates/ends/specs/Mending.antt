-- Words of a game with ends, made into words of the game without, one place at a time.
use Rattle.std.specs.Prelude.{◌≡◌, ℕ, ◌+◌, ◌<◌, ◌≤◌, List, [], ◌∷◌, ◌++◌, length, take, drop, Some, None, Option}
use Rattle.endless.specs.Games.{Place, Game, row, weight}
use Rattle.endless.specs.Graph.{Reading}
use Rattle.endless.specs.declared.place.HeadWords.{HeadWords}
use Rattle.ends.specs.declared.mend.Copied.{Copied}
use Rattle.ends.specs.Ends.{ReadsEnds, mended, made}
use Rattle.ends.specs.Says.{told}

-- no weight is hidden by what is made
abbrev pub Light : List Place → Type 0
Light [] = Unit {0}
Light (p ∷ ps) = (p.weight < 256) × Light ps

-- what the words say, whether or not it is a game, and what the made words say
pub record Mended (s t : List ℕ) (len : ℕ) : Type 0 where
  pub game : Game
  pub is : s ≡ length game ∷ row game
  pub made_is : take len t ≡ length game ∷ row (made game)
  pub light : Light game
  pub long : len ≤ length s + told s
  pub within : len ≤ length t

-- how many of the words t are made of the words s, or that these are no game
abbrev pub MendedIs : List ℕ → List ℕ → Option ℕ → Type 0
MendedIs s t (Some len) = Mended s t len
MendedIs s t None = (g : Game) → ReadsEnds s g → ⊥

-- the head of the place at `at`, whose weight is no more than a game's and whose moves all stand there; or that no place of a game stands there
abbrev pub HeadAt : List ℕ → ℕ → Option HeadWords → Type 0
HeadAt s at (Some h) = (drop at s ≡ h.whose ∷ h.weight ∷ h.moves ∷ drop (at + 3) s) × (h.weight < 256) × (at + 3 + h.moves ≤ length s)
HeadAt s at None = (g : Game) (i : ℕ) → i < length g → weight g i < 256 → Reading s g i at → ⊥

-- the place at `at`, with index i, is copied to the words t from `to` on
pub record Copies (s : List ℕ) (at i : ℕ) (t : List ℕ) (to : ℕ) (t' : List ℕ) (c : Copied) : Type 0 where
  pub place : Place
  pub is : drop at s ≡ row (place ∷ []) ++ drop (at + c.read) s
  pub light : place.weight < 256
  pub within : at + c.read ≤ length s
  pub put : take (to + c.written) t' ≡ take to t ++ row (mended i place ∷ [])
  pub longer : c.written ≤ c.read + 1
  pub next : (g : Game) → i < length g → Reading s g i at → Reading s g (i + 1) (at + c.read)

abbrev pub CopiedAt : List ℕ → ℕ → ℕ → List ℕ → ℕ → List ℕ → Option Copied → Type 0
CopiedAt s at i t to t' (Some c) = Copies s at i t to t' c
CopiedAt s at i t to t' None = (g : Game) → i < length g → weight g i < 256 → Reading s g i at → ⊥
