-- Moves that are tried one after the other: what the steps do to their state.
use Rattle.std.specs.Prelude.{◌≡◌, ℕ, ◌+◌, List}
use Rattle.endless.specs.Says.{side}
use Rattle.endless.specs.Graph.{edges}
use Rattle.moves.specs.Marking.{before, Marking}
use Rattle.moves.specs.declared.trying.Trying.{Trying}

-- the first k moves are seen to
abbrev pub Going : Trying → List ℕ → ℕ → Type 0
Going t first k = Marking t.solved.places.now (side t.solved.answer.now) first k t.out.now

-- the solved game stays, and what the work is written to
pub record Same (a b : Trying) : Type 0 where
  pub solved : b.solved ≡ a.solved
  pub led : b.led ≡ a.led
  pub out : b.out.ghost_name ≡ a.out.ghost_name
  pub part : b.part.ghost_name ≡ a.part.ghost_name
  pub queue : b.queue.ghost_name ≡ a.queue.ghost_name
  pub made : b.made.ghost_name ≡ a.made.ghost_name
  pub tried : b.tried.ghost_name ≡ a.tried.ghost_name
  pub work : b.work.ghost_name ≡ a.work.ghost_name

-- one more move is seen to
abbrev pub Tries : Trying → ℕ → Trying → Type 0
Tries a k b = (first : List ℕ) → Going a first k → Going b first (k + 1)

-- those of one more place are
abbrev pub TriesPlace : Trying → ℕ → Trying → Type 0
TriesPlace a n b = (first : List ℕ) → Going a first (before a.solved.places.now n) → Going b first (before a.solved.places.now (n + 1))

-- all are
abbrev pub TriesAll : Trying → Trying → Type 0
TriesAll a b = (first : List ℕ) → Going a first 0 → Going b first (edges a.solved.places.now)
