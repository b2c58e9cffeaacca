-- An answer is the only one: two plans that win from one place are of the same side.
use Rattle.std.proofs.Common.{◌≡◌, ℕ, zero, suc, ◌<◌, ◌⊎◌, List, length, sym, refl, ◌∙◌, inl, inr, arith}
use Rattle.std.proofs.lemmas.Bool.{cases_eq}
use Rattle.endless.specs.Games.{Game, Reads, whose, May, other}
use Rattle.endless.specs.Says.{WinsFrom, OnlyAnswer}
use Rattle.endless.specs.Sets.{Set, In, whole, having}
use Rattle.endless.specs.Subgames.{Holds, Solves}
use Rattle.endless.proofs.Places.{is_other}
use Rattle.endless.proofs.Sets.{whole_in, whole_place, having_in, having_within, having_is, each_map}
use Rattle.endless.proofs.Plans.{never_both, one_wins}
use Rattle.endless.proofs.Steps.{else_is, wins_as, wins_holds}

pub one_side : (s : List ℕ) (g : Game) (v w : ℕ) (a b : ℕ → ℕ) (X Y : Set) (n : ℕ) → Reads s g → v < 2 → w < 2 → WinsFrom g v a (λ m. In X m) → WinsFrom g w b (λ m. In Y m) → In X n → In Y n → v ≡ w
one_side s g zero zero a b X Y n r lv lw wx wy x y = refl
one_side s g zero (suc zero) a b X Y n r lv lw wx wy x y = absurd (one_wins s g a b X Y n r wx wy x y)
one_side s g zero (suc (suc w)) a b X Y n r lv lw wx wy x y = absurd (omega arith)
one_side s g (suc zero) zero a b X Y n r lv lw wx wy x y = absurd (one_wins s g b a Y X n r wy wx y x)
one_side s g (suc zero) (suc zero) a b X Y n r lv lw wx wy x y = refl
one_side s g (suc zero) (suc (suc w)) a b X Y n r lv lw wx wy x y = absurd (omega arith)
one_side s g (suc (suc v)) w a b X Y n r lv lw wx wy x y = absurd (omega arith)

pub only_answer : OnlyAnswer
only_answer s g sides a b w plan won n r two wa wb l wins h x = go (sides n) refl (two n h)
  where
    told : (v : ℕ) (σ : ℕ → ℕ) → WinsFrom g v σ (λ m. (m < length g) × (sides m ≡ v)) → WinsFrom g v σ (λ m. In (having (whole g) sides v) m)
    told v σ wv = wins_as g v σ (λ m. (m < length g) × (sides m ≡ v)) (λ m. In (having (whole g) sides v) m) (λ m t. having_in (whole g) sides v m (whole_in g m t.0) t.1) (λ m y. (whole_place g m (having_within (whole g) sides v m y), having_is (whole g) sides v m y)) wv

    one : (v : ℕ) (σ : ℕ → ℕ) → v < 2 → sides n ≡ v → WinsFrom g v σ (λ m. (m < length g) × (sides m ≡ v)) → v ≡ w
    one v σ lv e wv = one_side s g v w σ plan (having (whole g) sides v) won n r lv l (told v σ wv) wins (having_in (whole g) sides v n (whole_in g n h) e) x

    go : (v : ℕ) → sides n ≡ v → sides n < 2 → sides n ≡ w
    go zero e lv = omega (arith, e, one 0 a (omega arith) e wa)
    go (suc zero) e lv = omega (arith, e, one 1 b (omega arith) e wb)
    go (suc (suc v)) e lv = absurd (omega arith)

-- nor do two sides hold one place of a subgame
pub one_holds : {s : List ℕ} {g : Game} {U X Y : Set} {v w : ℕ} {a b : ℕ → ℕ} → Reads s g → v < 2 → w < 2 → Holds g U X v a → Holds g U Y w b → (n : ℕ) → In X n → In Y n → v ≡ w
one_holds {s} {g} {U} {X} {Y} {v} {w} {a} {b} r lv lw h k n x y = go (cases_eq v w)
  where
    in_both : ℕ → Type 0
    in_both m = In X m × In Y m

    go : (v ≡ w) ⊎ (v ≡ w → ⊥) → v ≡ w
    go (inl e) = e
    go (inr d) = absurd (never_both g v a b in_both n lv (x, y) own others (λ m ns z c. h.rounds m ns (each_map (λ i t. t.0) ns z) c) (λ m ns z c. rw (← is) (k.rounds m ns (each_map (λ i t. t.1) ns z) (rw is c))))
      where
        is : w ≡ other v
        is = is_other v w lv lw (λ e. d (sym e))

        own : (m : ℕ) → in_both m → whose g m ≡ v → May g m (a m) × in_both (a m)
        own m z e = let t = h.may m z.0 e in (t.0, (t.1, k.held m (a m) z.1 (λ f. d (sym e ∙ f)) t.0 (h.within (a m) t.1)))

        others : (m : ℕ) → in_both m → (whose g m ≡ v → ⊥) → May g m (b m) × in_both (b m)
        others m z f = let t = k.may m z.1 (else_is r v w lv lw d m f) in (t.0, (h.held m (b m) z.0 f t.0 (k.within (b m) t.1), t.1))

-- where a side's plan wins from all of a subgame, an answer to the subgame gives it all
pub all_given : {s : List ℕ} {g : Game} {U : Set} {sides plan best : ℕ → ℕ} {w : ℕ} → Reads s g → Solves g U sides plan → w < 2 → WinsFrom g w best (λ n. In U n) → (n : ℕ) → In U n → sides n ≡ w
all_given {s} {g} {U} {sides} r answer l wins n x =
    let two = answer.one_of_two n x in
    one_holds r two l (answer.won (sides n) two) (wins_holds r l (λ m y. y) wins) n (having_in U sides (sides n) n x refl) x
