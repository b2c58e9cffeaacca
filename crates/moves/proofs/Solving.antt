-- Words that are a game, solved where enough is lent: nothing is refused, and what is written is an answer.
use Rattle.std.proofs.Common.{◌≡◌, ℕ, ◌+◌, ◌*◌, ◌≤◌, Ok, Err, Result, List, length, sym, refl, ap, subst, arith}
use Rattle.std.specs.Result.{IsOk}
use Rattle.endless.specs.declared.refusal.Refusal.{Refusal}
use Rattle.endless.specs.declared.refusal.Refusal.TheVariants.{Few, NoGame, NoPlace, OutFull}
use Rattle.endless.specs.Games.{Game, Reads}
use Rattle.endless.specs.Promises.{SolvedSays, SolvedPost}
use Rattle.endless.specs.Checked.{IsAnswer}
use Rattle.endless.proofs.Unique.{one_game}

pub answered : {s : List ℕ} {lent : ℕ} {o p : List ℕ} (g : Game) → Reads s g → 2 * length g ≤ length o → length p ≡ length o → 65536 + 4 * length s ≤ lent → (r : Result (Unit {0}) Refusal) → SolvedPost s lent o p r → (r ≡ Ok tt) × IsAnswer g p
answered {s} {lent} {o} {p} g reads room long enough r post = by r post.says (λ e. omega (arith, post.few.1 e))
  where
    by : (r : Result (Unit {0}) Refusal) → SolvedSays s o p r → (r ≡ Err Few → ⊥) → (r ≡ Ok tt) × IsAnswer g p
    by (Ok u) (h, q, inside, two, even, odd, behind) few = (
      refl,
      subst (λ (k : Game). IsAnswer k p) (one_game s h g q reads) (record { long = omega arith; one_of_two = two; wins_0 = even; wins_1 = odd }),
    )
    by (Err OutFull) (h, q, short, kept) few = let e : length h ≡ length g = ap length (one_game s h g q reads) in absurd (omega arith)
    by (Err NoGame) (none, kept) few = absurd (none g reads)
    by (Err Few) kept few = absurd (few refl)
    by (Err NoPlace) none few = absurd none

pub is_ok_of : {r : Result (Unit {0}) Refusal} → r ≡ Ok tt → IsOk r
is_ok_of e = subst IsOk (sym e) refl

-- whatever game the words are, an answer to it has room
pub same_room : {s : List ℕ} {g h : Game} {k : ℕ} → Reads s g → Reads s h → 2 * length g ≤ k → 2 * length h ≤ k
same_room {s} {g} {h} r q l = let e : length h ≡ length g = ap length (one_game s h g q r) in omega arith
