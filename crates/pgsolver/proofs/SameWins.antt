-- Weights in the same order, and odd as before, make the same plans win.
use Rattle.std.proofs.Common.{◌≡◌, ℕ, zero, suc, ◌%◌, ◌<◌, ◌≤◌, Bool, T, List, [], ◌∷◌, length, get_or, sym, refl, ap, ◌∙◌, subst, ⊎_elim, arith}
use Rattle.std.proofs.lemmas.Bool.{cases_lt}
use Rattle.endless.specs.Games.{Game, opt, nth, whose, weight, Among, May, Play, Wins, other}
use Rattle.endless.specs.Says.{WinsFrom}
use Rattle.pgsolver.specs.Weights.{Keeps, Alike, weights_of, SameWins}

-- two games that are played in the same way
pub record Similar (g h : Game) : Type 0 where
  pub owns : (n : ℕ) → whose g n ≡ whose h n
  pub goes : (n m : ℕ) → May g n m → May h n m
  pub back : (n m : ℕ) → May h n m → May g n m
  pub odd : (n : ℕ) → n < length g → weight g n % 2 ≡ weight h n % 2
  pub up : (n m : ℕ) → n < length g → m < length g → weight g n ≤ weight g m → weight h n ≤ weight h m
  pub down : (n m : ℕ) → n < length g → m < length g → weight h n ≤ weight h m → weight g n ≤ weight g m
  pub many : length g ≡ length h

pub similar_sym : (g h : Game) → Similar g h → Similar h g
similar_sym g h s = record {
  owns = λ n. sym (s.owns n);
  goes = s.back;
  back = s.goes;
  odd = λ n l. sym (s.odd n (omega (arith, l, s.many)));
  up = λ n m l k. s.down n m (omega (arith, l, s.many)) (omega (arith, k, s.many));
  down = λ n m l k. s.up n m (omega (arith, l, s.many)) (omega (arith, k, s.many));
  many = sym s.many;
}

may_in : (g : Game) (n m : ℕ) → May g n m → n < length g
may_in [] n m a = absurd (nobody a)
  where
    nobody : {x : ℕ} → Among x [] → ⊥
    nobody a = elim a [ ]
may_in (p ∷ g) zero m a = omega arith
may_in (p ∷ g) (suc n) m a = omega (arith, may_in g n m a)

wins_over : (g h : Game) → Similar g h → (w : ℕ) (f : Play) → ((i : ℕ) → f i < length g) → Wins g w f → Wins h w f
wins_over g h s w f inside t =
    let k = t.0 in
    let heavy = t.1 in
    let once = heavy.again 0 in
    let j = once.0 in (
      weight h (f j),
      record {
        from = heavy.from;
        none_heavier = λ i l. s.up (f i) (f j) (inside i) (inside j) (omega (arith, heavy.none_heavier i l, once.2));
        again = λ i. let more = heavy.again i in
            (more.0, more.1, both _ _ (s.up (f more.0) (f j) (inside more.0) (inside j) (omega (arith, more.2, once.2))) (s.up (f j) (f more.0) (inside j) (inside more.0) (omega (arith, more.2, once.2))));
      },
      sym (s.odd (f j) (inside j)) ∙ ap (λ m. m % 2) once.2 ∙ t.2,
    )
  where
    both : (a b : ℕ) → a ≤ b → b ≤ a → a ≡ b
    both a b l k = omega arith

from_over : (g h : Game) → Similar g h → (w : ℕ) (plan : ℕ → ℕ) (won : ℕ → Bool) → WinsFrom g w plan (λ n. T (won n)) → WinsFrom h w plan (λ n. T (won n))
from_over g h s w plan won f = record {
  may = λ n i o. let t = f.may n i (s.owns n ∙ o) in (s.goes n (plan n) t.0, t.1);
  held = λ n m i o a. f.held n m i (λ e. o (sym (s.owns n) ∙ e)) (s.back n m a);
  not_lost = λ p i plays by lost. f.not_lost p i (λ k. s.back _ _ (plays k)) (λ k o. by k (sym (s.owns (p k)) ∙ o)) (wins_over h g (similar_sym g h s) (other w) p (λ k. may_in h (p k) (p (suc k)) (plays k)) lost);
}

alike_whose : (g h : Game) → Alike g h → (n : ℕ) → whose g n ≡ whose h n
alike_whose [] [] a n = refl
alike_whose [] (q ∷ h) a n = absurd a
alike_whose (p ∷ g) [] a n = absurd a
alike_whose (p ∷ g) (q ∷ h) a zero = a.0
alike_whose (p ∷ g) (q ∷ h) a (suc n) = alike_whose g h a.2 n

abbrev moves_at : Game → ℕ → List ℕ
moves_at g n = opt (nth g n) [] (λ p. p.moves)

alike_moves : (g h : Game) → Alike g h → (n : ℕ) → moves_at g n ≡ moves_at h n
alike_moves [] [] a n = refl
alike_moves [] (q ∷ h) a n = absurd a
alike_moves (p ∷ g) [] a n = absurd a
alike_moves (p ∷ g) (q ∷ h) a zero = a.1
alike_moves (p ∷ g) (q ∷ h) a (suc n) = alike_moves g h a.2 n

pub alike_many : (g h : Game) → Alike g h → length g ≡ length h
alike_many [] [] a = refl
alike_many [] (q ∷ h) a = absurd a
alike_many (p ∷ g) [] a = absurd a
alike_many (p ∷ g) (q ∷ h) a = ap suc (alike_many g h a.2)

weight_at : (g : Game) (n : ℕ) → weight g n ≡ get_or (weights_of g) n 0
weight_at [] n = refl
weight_at (p ∷ g) zero = refl
weight_at (p ∷ g) (suc n) = weight_at g n

weights_many : (g : Game) → length (weights_of g) ≡ length g
weights_many [] = refl
weights_many (p ∷ g) = ap suc (weights_many g)

module _ (g h : Game) (a : Alike g h) (k : Keeps (weights_of g) (weights_of h)) where
  inside : (n : ℕ) → n < length g → n < length (weights_of g)
  inside n l = omega (arith, l, weights_many g)

  rise : (n m : ℕ) → n < length g → m < length g → weight g n ≤ weight g m → weight h n ≤ weight h m
  rise n m i j l =
      ⊎_elim (λ q. omega (arith, k.rises n m (inside n i) (inside m j) (omega (arith, q, weight_at g n, weight_at g m)), weight_at h n, weight_at h m))
      (λ q. omega (arith, k.same n m (inside n i) (inside m j) (omega (arith, q, l, weight_at g n, weight_at g m)), weight_at h n, weight_at h m))
      (cases_lt (weight g n) (weight g m))

  fall : (n m : ℕ) → n < length g → m < length g → weight h n ≤ weight h m → weight g n ≤ weight g m
  fall n m i j l =
      ⊎_elim (λ q. absurd (omega (arith, l, k.rises m n (inside m j) (inside n i) (omega (arith, q, weight_at g n, weight_at g m)), weight_at h n, weight_at h m)))
      (λ q. omega (arith, q))
      (cases_lt (weight g m) (weight g n))

  pub alike_similar : Similar g h
  alike_similar = record {
    owns = alike_whose g h a;
    goes = λ n m x. subst (λ l. Among m l) (alike_moves g h a n) x;
    back = λ n m x. subst (λ l. Among m l) (sym (alike_moves g h a n)) x;
    odd = λ n l. ap (λ x. x % 2) (weight_at g n) ∙ sym (k.odd n (inside n l)) ∙ ap (λ x. x % 2) (sym (weight_at h n));
    up = rise;
    down = fall;
    many = alike_many g h a;
  }

pub same_wins : SameWins
same_wins g h a k w plan won =
    let s = alike_similar g h a k in
    (from_over g h s w plan won, from_over h g (similar_sym g h s) w plan won)
