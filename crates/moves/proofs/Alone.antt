-- A game in which a place has one move alone: its places, its moves and its words.
use Rattle.std.proofs.Common.{◌≡◌, ℕ, zero, suc, ◌<◌, Bool, true, false, ◌&&◌, T, List, [], ◌∷◌, length, replicate, ltb, sym, refl, ap, subst, arith, lt→ltb, le→leb}
use Rattle.std.proofs.lemmas.List.{length-replicate}
use Rattle.endless.specs.Games.{Game, Reads, below, ok_ps, whose, weight, Among, first, later, May}
use Rattle.endless.specs.Graph.{moves}
use Rattle.endless.specs.View.{words_of}
use Rattle.endless.proofs.Places.{ok_parts, ok_from, ok_size}
use Rattle.moves.specs.Alone.{kept, alone}

pub length_alone : (g : Game) (n m : ℕ) → length (alone g n m) ≡ length g
length_alone [] n m = refl
length_alone (p ∷ ps) zero m = refl
length_alone (p ∷ ps) (suc n) m = ap suc (length_alone ps n m)

pub whose_alone : (g : Game) (n m j : ℕ) → whose (alone g n m) j ≡ whose g j
whose_alone [] n m j = refl
whose_alone (p ∷ ps) zero m zero = refl
whose_alone (p ∷ ps) zero m (suc j) = refl
whose_alone (p ∷ ps) (suc n) m zero = refl
whose_alone (p ∷ ps) (suc n) m (suc j) = whose_alone ps n m j

pub weight_alone : (g : Game) (n m j : ℕ) → weight (alone g n m) j ≡ weight g j
weight_alone [] n m j = refl
weight_alone (p ∷ ps) zero m zero = refl
weight_alone (p ∷ ps) zero m (suc j) = refl
weight_alone (p ∷ ps) (suc n) m zero = refl
weight_alone (p ∷ ps) (suc n) m (suc j) = weight_alone ps n m j

-- ---- the moves

moves_else : (g : Game) (n m j : ℕ) → (j ≡ n → ⊥) → moves (alone g n m) j ≡ moves g j
moves_else [] n m j d = refl
moves_else (p ∷ ps) zero m zero d = absurd (d refl)
moves_else (p ∷ ps) zero m (suc j) d = refl
moves_else (p ∷ ps) (suc n) m zero d = refl
moves_else (p ∷ ps) (suc n) m (suc j) d = moves_else ps n m j (λ e. d (ap suc e))

moves_here : (g : Game) (n m : ℕ) → moves (alone g n m) n ≡ replicate (length (moves g n)) m
moves_here [] n m = refl
moves_here (p ∷ ps) zero m = refl
moves_here (p ∷ ps) (suc n) m = moves_here ps n m

-- elsewhere one may move as before
pub may_else : (g : Game) (n m j x : ℕ) → (j ≡ n → ⊥) → May (alone g n m) j x → May g j x
may_else g n m j x d a = subst (Among x) (moves_else g n m j d) a

pub may_still : (g : Game) (n m j x : ℕ) → (j ≡ n → ⊥) → May g j x → May (alone g n m) j x
may_still g n m j x d a = subst (Among x) (sym (moves_else g n m j d)) a

one_among : (c x m : ℕ) → Among x (replicate c m) → x ≡ m
one_among zero x m a = elim a [ ]
one_among (suc c) x m first = refl
one_among (suc c) x m (later a) = one_among c x m a

among_one : (xs : List ℕ) (x m : ℕ) → Among x xs → Among m (replicate (length xs) m)
among_one [] x m a = elim a [ ]
among_one (y ∷ xs) x m a = first

-- there to the one place
pub may_here : (g : Game) (n m x : ℕ) → May (alone g n m) n x → x ≡ m
may_here g n m x a = one_among (length (moves g n)) x m (subst (Among x) (moves_here g n m) a)

pub here_may : (g : Game) (n m x : ℕ) → May g n x → May (alone g n m) n m
here_may g n m x a = subst (Among m) (sym (moves_here g n m)) (among_one (moves g n) x m a)

-- ---- it is a game

from_both : (a b : Bool) → T a → T b → T (a && b)
from_both true b t u = u
from_both false b t u = t

below_one : (k c m : ℕ) → m < k → T (below k (replicate c m))
below_one k zero m h = tt
below_one k (suc c) m h = from_both (ltb m k) (below k (replicate c m)) (lt→ltb m k h) (below_one k c m h)

ok_alone : (k : ℕ) (g : Game) (n m : ℕ) → m < k → T (ok_ps k g) → T (ok_ps k (alone g n m))
ok_alone k [] n m h t = t
ok_alone k (p ∷ ps) zero m h t =
    let f = ok_parts k p ps t in
    ok_from k (kept p m) ps (record { side = f.0.side; light = f.0.light; moving = omega (arith, f.0.moving, length-replicate (length p.moves) m); inside = below_one k (length p.moves) m h }) f.1
ok_alone k (p ∷ ps) (suc n) m h t = let f = ok_parts k p ps t in ok_from k p (alone ps n m) f.0 (ok_alone k ps n m h f.1)

pub reads_alone : {s : List ℕ} {g : Game} → Reads s g → (n m : ℕ) → m < length g → Reads (words_of (alone g n m)) (alone g n m)
reads_alone {s} {g} r n m h =
    let z = ok_size s g r in
    let e = length_alone g n m in
    record {
      is = refl;
      fine = from_both _ _ (le→leb 1 (length (alone g n m)) (omega (arith, z.0))) (from_both _ _ (le→leb (length (alone g n m)) 16384 (omega (arith, z.1)))
          (subst (λ (k : ℕ). T (ok_ps k (alone g n m))) (sym e) (ok_alone (length g) g n m h z.2)));
    }
