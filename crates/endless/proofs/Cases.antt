-- The worked example: a game of three places, an answer whose plans win, and one whose do not.
use Rattle.std.proofs.Common.{◌≡◌, ℕ, zero, suc, ◌%◌, ◌<◌, ◌≤◌, T, eqb, ltb, ◌⊎◌, List, [], ◌∷◌, sym, refl, subst, inl, inr, suc-ne-zero, arith, eqb→eq, ltb→lt}
use Rattle.std.proofs.lemmas.Bool.{cases_eq}
use Rattle.endless.specs.Games.{Reads, row, whose, first, later, May}
use Rattle.endless.specs.Says.{WinsFrom, Round, last, then1, heaviest, goes}
use Rattle.endless.specs.Example.{three, answer, wrong, Told, ThreePlaces}
use Rattle.endless.proofs.Plays.{rounds_win}
use Rattle.endless.proofs.Among.{only_among}
use Rattle.endless.proofs.Steps.{wins_as}

reads : Reads (3 ∷ 0 ∷ 1 ∷ 2 ∷ 1 ∷ 2 ∷ 1 ∷ 2 ∷ 1 ∷ 0 ∷ 1 ∷ 3 ∷ 2 ∷ 0 ∷ 2 ∷ []) three
unfolding three
reads = record { is = refl; fine = tt }

-- the answer's plans win: side 0 from 0 and 1, where 2 is the heaviest of every round
low : (n : ℕ) (ns : List ℕ) (k : ℕ) → n < 2 → Round three 0 (goes answer) n ns k → (heaviest three ns ≤ 2) × (n ≡ 0 → k ≡ 0 → 2 ≤ heaviest three ns) × (n ≡ 1 → 2 ≤ heaviest three ns)
unfolding three answer
low zero ns k l (last a b) = let e : k ≡ 1 = b refl in omega arith
low zero ns k l (then1 {m = m} {ns = ms} a b r) = let e : m ≡ 1 = b refl in let t = low m ms k (omega arith) r in omega (arith, t.0, t.2 e)
low (suc zero) ns k l (last a b) = omega arith
low (suc zero) ns k l (then1 {m = m} {ns = ms} a b r) = let e : m ≡ 0 = only_among m 0 a in let t = low m ms k (omega arith) r in omega (arith, t.0)
low (suc (suc n)) ns k l r = absurd (omega arith)

-- side 1 from 2, where it stays
high : (n : ℕ) (ns : List ℕ) (k : ℕ) → n ≡ 2 → Round three 1 (goes answer) n ns k → heaviest three ns ≡ 3
unfolding three answer
high zero ns k e r = absurd (omega arith)
high (suc zero) ns k e r = absurd (omega arith)
high (suc (suc zero)) ns k e (last a b) = refl
high (suc (suc zero)) ns k e (then1 {m = m} {ns = ms} a b r) = omega (arith, high m ms k (b refl) r)
high (suc (suc (suc n))) ns k e r = absurd (omega arith)

wins_0 : WinsFrom three 0 (goes answer) (Told answer 0)
unfolding three answer
wins_0 = wins_as three 0 (goes answer) (λ n. T (ltb n 2)) (Told answer 0) to fro (rounds_win (3 ∷ row three) three 0 (goes answer) (λ n. ltb n 2) reads (omega arith) may held rounds)
  where
    to : (n : ℕ) → T (ltb n 2) → Told answer 0 n
    to zero x = (omega arith, refl)
    to (suc zero) x = (omega arith, refl)
    to (suc (suc n)) x = absurd (omega (arith, ltb→lt (suc (suc n)) 2 x))

    fro : (n : ℕ) → Told answer 0 n → T (ltb n 2)
    fro zero t = tt
    fro (suc zero) t = tt
    fro (suc (suc zero)) t = absurd (suc-ne-zero 0 t.1)
    fro (suc (suc (suc n))) t = absurd (omega arith)

    may : (n : ℕ) → T (ltb n 2) → whose three n ≡ 0 → May three n (goes answer n) × T (ltb (goes answer n) 2)
    may zero x e = (first, tt)
    may (suc zero) x e = absurd (suc-ne-zero 0 e)
    may (suc (suc n)) x e = absurd (omega (arith, ltb→lt (suc (suc n)) 2 x))

    held : (n m : ℕ) → T (ltb n 2) → (whose three n ≡ 0 → ⊥) → May three n m → T (ltb m 2)
    held zero m x d a = absurd (d refl)
    held (suc zero) m x d a = subst (λ (k : ℕ). T (ltb k 2)) (sym (only_among m 0 a)) tt
    held (suc (suc n)) m x d a = absurd (omega (arith, ltb→lt (suc (suc n)) 2 x))

    rounds : (n : ℕ) (ns : List ℕ) → T (ltb n 2) → Round three 0 (goes answer) n ns n → heaviest three ns % 2 ≡ 0
    rounds n ns x r = let l = ltb→lt n 2 x in let t = low n ns n l r in go t (cases_eq n 0) l
      where
        go : (heaviest three ns ≤ 2) × (n ≡ 0 → n ≡ 0 → 2 ≤ heaviest three ns) × (n ≡ 1 → 2 ≤ heaviest three ns) → (n ≡ 0) ⊎ (n ≡ 0 → ⊥) → n < 2 → heaviest three ns % 2 ≡ 0
        go t (inl e) l = omega (arith, t.0, t.1 e e)
        go t (inr d) l = omega (arith, t.0, t.2 (omega arith))

wins_1 : WinsFrom three 1 (goes answer) (Told answer 1)
unfolding three answer
wins_1 = wins_as three 1 (goes answer) (λ n. T (eqb n 2)) (Told answer 1) to fro (rounds_win (3 ∷ row three) three 1 (goes answer) (λ n. eqb n 2) reads (omega arith) may held rounds)
  where
    to : (n : ℕ) → T (eqb n 2) → Told answer 1 n
    to n x = subst (Told answer 1) (sym (eqb→eq n 2 x)) (omega arith, refl)

    fro : (n : ℕ) → Told answer 1 n → T (eqb n 2)
    fro zero t = absurd (omega arith)
    fro (suc zero) t = absurd (omega arith)
    fro (suc (suc zero)) t = tt
    fro (suc (suc (suc n))) t = absurd (omega arith)

    may : (n : ℕ) → T (eqb n 2) → whose three n ≡ 1 → May three n (goes answer n) × T (eqb (goes answer n) 2)
    may n x e = subst (λ (m : ℕ). May three m (goes answer m) × T (eqb (goes answer m) 2)) (sym (eqb→eq n 2 x)) (later first, tt)

    held : (n m : ℕ) → T (eqb n 2) → (whose three n ≡ 1 → ⊥) → May three n m → T (eqb m 2)
    held n m x d a = absurd (d (subst (λ (k : ℕ). whose three k ≡ 1) (sym (eqb→eq n 2 x)) refl))

    rounds : (n : ℕ) (ns : List ℕ) → T (eqb n 2) → Round three 1 (goes answer) n ns n → heaviest three ns % 2 ≡ 1
    rounds n ns x r = omega (arith, high n ns n (eqb→eq n 2 x) r)

-- side 1 stays at 2
not_wins_0 : WinsFrom three 0 (goes wrong) (Told wrong 0) → ⊥
unfolding three wrong
not_wins_0 wins = wins.not_lost (λ i. 2) (omega arith, refl) (λ i. later first) (λ i e. absurd (suc-ne-zero 0 e)) (3, record { from = 0; none_heavier = λ i l. omega arith; again = λ i. (i, omega arith, refl) }, refl)

pub three_places : ThreePlaces
unfolding three answer
three_places = record {
  reads = reads;
  to_one = first;
  to_two = later first;
  round_one = then1 {m = 1} first (λ e. refl) (last {m = 0} first (λ e. absurd (suc-ne-zero 0 e)));
  round_two = then1 {m = 2} (later first) (λ e. refl) (last {m = 0} first (λ e. absurd (suc-ne-zero 0 e)));
  heaviest_one = refl;
  heaviest_two = refl;
  sides = (refl, refl, refl);
  moves = (refl, refl);
  wins_0 = wins_0;
  wins_1 = wins_1;
  not_wins_0 = not_wins_0;
}
