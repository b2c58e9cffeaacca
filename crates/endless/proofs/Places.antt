-- What is so of each place of a game that words read as: its side, its weight, its moves.
use Rattle.std.proofs.Common.{◌≡◌, ℕ, zero, suc, ◌<◌, ◌≤◌, ◌&&◌, T, ltb, leb, List, [], ◌∷◌, length, arith, ltb→lt, lt→ltb, leb→le}
use Rattle.endless.specs.Games.{Place, Game, Reads, ok_ps, below, some_of, whose, weight, Among, first, later, May, other}
use Rattle.endless.specs.Graph.{moves}
use Rattle.endless.proofs.Tests.{both, from_both}
use Rattle.endless.proofs.Among.{among_at}

-- a place that fits in a game of n places
pub record Fine (n : ℕ) (p : Place) : Type 0 where
  pub side : p.whose < 2
  pub light : p.weight < 256
  pub moving : 1 ≤ length p.moves
  pub inside : T (below n p.moves)

some_length : (l : List ℕ) → T (some_of l) → 1 ≤ length l
some_length [] t = elim t [ ]
some_length (x ∷ xs) t = omega arith

length_some : (l : List ℕ) → 1 ≤ length l → T (some_of l)
length_some [] h = absurd (omega arith)
length_some (x ∷ xs) h = tt

pub ok_parts : (n : ℕ) (p : Place) (ps : List Place) → T (ok_ps n (p ∷ ps)) → Fine n p × T (ok_ps n ps)
ok_parts n p ps t =
    let a = both (ltb p.whose 2 && ltb p.weight 256) ((some_of p.moves && below n p.moves) && ok_ps n ps) t in
    let b = both (ltb p.whose 2) (ltb p.weight 256) a.0 in
    let c = both (some_of p.moves && below n p.moves) (ok_ps n ps) a.1 in
    let d = both (some_of p.moves) (below n p.moves) c.0 in
    (record { side = ltb→lt p.whose 2 b.0; light = ltb→lt p.weight 256 b.1; moving = some_length p.moves d.0; inside = d.1 }, c.1)

pub ok_from : (n : ℕ) (p : Place) (ps : List Place) → Fine n p → T (ok_ps n ps) → T (ok_ps n (p ∷ ps))
ok_from n p ps f t =
    from_both _ _ (from_both _ _ (lt→ltb p.whose 2 f.side) (lt→ltb p.weight 256 f.light)) (from_both _ _ (from_both _ _ (length_some p.moves f.moving) f.inside) t)

-- a game has 1 to 16,384 places, and each fits in it
pub ok_size : (s : List ℕ) (g : Game) → Reads s g → (1 ≤ length g) × (length g ≤ 16384) × T (ok_ps (length g) g)
ok_size s g r =
    let a = both (leb 1 (length g)) (leb (length g) 16384 && ok_ps (length g) g) r.fine in
    let b = both (leb (length g) 16384) (ok_ps (length g) g) a.1 in
    (leb→le 1 (length g) a.0, leb→le (length g) 16384 b.0, b.1)

pub among_below : (k : ℕ) (xs : List ℕ) (m : ℕ) → T (below k xs) → Among m xs → m < k
among_below k [] m t a = elim a [ ]
among_below k (x ∷ xs) m t first = ltb→lt m k (both (ltb m k) (below k xs) t).0
among_below k (x ∷ xs) m t (later a) = among_below k xs m (both (ltb x k) (below k xs) t).1 a

one_of : (xs : List ℕ) → 1 ≤ length xs → (m : ℕ) × Among m xs
one_of [] h = absurd (omega arith)
one_of (x ∷ xs) h = (x, first)

-- a place of a game of k places
record Sound (k : ℕ) (g : Game) (n : ℕ) : Type 0 where
  side_below : whose g n < 2
  weight_below : weight g n < 256
  move_below : (m : ℕ) → May g n m → m < k
  has_move : n < length g → (m : ℕ) × May g n m

sound : (k : ℕ) (g : Game) (n : ℕ) → T (ok_ps k g) → Sound k g n
sound k [] n t = record { side_below = omega arith; weight_below = omega arith; move_below = λ m a. elim a [ ]; has_move = λ h. absurd (omega arith) }
sound k (p ∷ ps) zero t =
    let f = (ok_parts k p ps t).0 in
    record { side_below = f.side; weight_below = f.light; move_below = λ m x. among_below k p.moves m f.inside x; has_move = λ h. one_of p.moves f.moving }
sound k (p ∷ ps) (suc n) t =
    let s = sound k ps n (ok_parts k p ps t).1 in
    record { side_below = s.side_below; weight_below = s.weight_below; move_below = s.move_below; has_move = λ h. s.has_move (omega arith) }

at : (s : List ℕ) (g : Game) → Reads s g → (n : ℕ) → Sound (length g) g n
at s g r n = sound (length g) g n (ok_size s g r).2

pub side_below : {s : List ℕ} {g : Game} → Reads s g → (n : ℕ) → whose g n < 2
side_below {s} {g} r n = (at s g r n).side_below

pub weight_below : {s : List ℕ} {g : Game} → Reads s g → (n : ℕ) → weight g n < 256
weight_below {s} {g} r n = (at s g r n).weight_below

pub to_place : {s : List ℕ} {g : Game} → Reads s g → (n m : ℕ) → May g n m → m < length g
to_place {s} {g} r n m a = (at s g r n).move_below m a

pub has_move : {s : List ℕ} {g : Game} → Reads s g → (n : ℕ) → n < length g → (m : ℕ) × May g n m
has_move {s} {g} r n h = (at s g r n).has_move h

pub some_moves : {s : List ℕ} {g : Game} → Reads s g → (n : ℕ) → n < length g → 0 < length (moves g n)
some_moves {s} {g} r n h = let t = has_move r n h in omega (arith, (among_at t.0 (moves g n) t.1).1)

pub from_place : (g : Game) (n m : ℕ) → May g n m → n < length g
from_place [] n m a = elim a [ ]
from_place (p ∷ ps) zero m a = omega arith
from_place (p ∷ ps) (suc n) m a = omega (arith, from_place ps n m a)

-- two sides: who is not the one is the other
pub other_below : (w : ℕ) → other w < 2
other_below zero = omega arith
other_below (suc w) = omega arith

pub is_other : (w v : ℕ) → w < 2 → v < 2 → (v ≡ w → ⊥) → v ≡ other w
is_other zero v p q d = omega arith
is_other (suc w) v p q d = omega arith

pub not_other : (w v : ℕ) → w < 2 → v ≡ w → v ≡ other w → ⊥
not_other zero v p e d = omega arith
not_other (suc w) v p e d = omega arith
