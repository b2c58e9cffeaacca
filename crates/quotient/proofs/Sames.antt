-- Places that the parts do not tell apart: an equivalence, which places that are alike are in, and one bucket for each of its classes.
use Rattle.std.proofs.Common.{◌≡◌, ℕ, ◌%◌, ◌<◌, ◌≤◌, Bool, T, List, [], ◌∷◌, length, get_or, sym, refl, ap, ◌∙◌, subst, arith}
use Rattle.endless.specs.Games.{Game, Reads, Among, first, later}
use Rattle.endless.specs.Graph.{moves}
use Rattle.endless.proofs.Among.{among_at, at_among}
use Rattle.endless.proofs.Places.{to_place}
use Rattle.quotient.specs.Alike.{Bisimulation}
use Rattle.quotient.specs.Gathering.{Into}
use Rattle.quotient.specs.Refining.{part, Leads, Same, scattered, greatest, bucket, Sound}

-- ---- a move into a part

pub into_among : (parts ms : List ℕ) (q : ℕ) → Into ms parts q → (m : ℕ) × Among m ms × (part parts m ≡ q)
into_among parts ms q x = (get_or ms x.0 0, at_among ms x.0 x.1, x.2)

pub among_into : (parts ms : List ℕ) (m : ℕ) → Among m ms → Into ms parts (part parts m)
among_into parts ms m a = let t = among_at m ms a in (t.0, t.1, ap (λ (k : ℕ). get_or parts k 0) t.2)

-- ---- an equivalence

pub same_self : (g : Game) (parts : List ℕ) (n : ℕ) → Same g parts n n
same_self g parts n = record { owns = refl; weighs = refl; one_part = refl; there = λ q x. x; back = λ q x. x }

pub same_back : {g : Game} {parts : List ℕ} {n m : ℕ} → Same g parts n m → Same g parts m n
same_back s = record { owns = sym s.owns; weighs = sym s.weighs; one_part = sym s.one_part; there = s.back; back = s.there }

pub same_then : {g : Game} {parts : List ℕ} {n m k : ℕ} → Same g parts n m → Same g parts m k → Same g parts n k
same_then s t = record { owns = s.owns ∙ t.owns; weighs = s.weighs ∙ t.weighs; one_part = s.one_part ∙ t.one_part; there = λ q x. t.there q (s.there q x); back = λ q x. s.back q (t.back q x) }

-- ---- what is alike is not told apart

module _ {s : List ℕ} {g : Game} (reads : Reads s g) {parts : List ℕ} (sound : Sound g parts) (R : ℕ → ℕ → Bool) (alike : Bisimulation g R) where
  pub alike_same : (n m : ℕ) → n < length g → m < length g → T (R n m) → Same g parts n m
  alike_same n m ln lm x = record {
    owns = alike.owns n m x;
    weighs = alike.weighs n m x;
    one_part = sound R n m alike ln lm x;
    there = λ q i.
        let t = into_among parts (moves g n) q i in
        let u = alike.there n m t.0 x t.1 in
        let e : part parts u.0 ≡ q = sym (sound R t.0 u.0 alike (to_place reads n t.0 t.1) (to_place reads m u.0 u.1) u.2) ∙ t.2 in
        subst (Into (moves g m) parts) e (among_into parts (moves g m) u.0 u.1);
    back = λ q i.
        let t = into_among parts (moves g m) q i in
        let u = alike.back n m t.0 x t.1 in
        let e : part parts u.0 ≡ q = sound R u.0 t.0 alike (to_place reads n u.0 u.1) (to_place reads m t.0 t.1) u.2 ∙ t.2 in
        subst (Into (moves g n) parts) e (among_into parts (moves g n) u.0 u.1);
  }

-- ---- one bucket

greatest_above : (f : ℕ → ℕ) (ms : List ℕ) (m : ℕ) → Among m ms → f m ≤ greatest f ms
greatest_above f [] m a = elim a [ ]
greatest_above f (x ∷ ms) m first = omega arith
greatest_above f (x ∷ ms) m (later a) = omega (arith, greatest_above f ms m a)

greatest_least : (f : ℕ → ℕ) (ms : List ℕ) (b : ℕ) → ((m : ℕ) → Among m ms → f m ≤ b) → greatest f ms ≤ b
greatest_least f [] b h = omega arith
greatest_least f (x ∷ ms) b h = omega (arith, h x first, greatest_least f ms b (λ m a. h m (later a)))

module _ (g : Game) (parts : List ℕ) where
  -- of what is a function of the part
  greatest_into : (f : ℕ → ℕ) (n m : ℕ) → Leads g parts n m → greatest (λ k. f (part parts k)) (moves g n) ≤ greatest (λ k. f (part parts k)) (moves g m)
  greatest_into f n m there = greatest_least (λ k. f (part parts k)) (moves g n) _ (λ k a.
      let t = into_among parts (moves g m) (part parts k) (there (part parts k) (among_into parts (moves g n) k a)) in
      let above = greatest_above (λ j. f (part parts j)) (moves g m) t.0 t.1 in
      let e : f (part parts t.0) ≡ f (part parts k) = ap f t.2 in
      omega arith)

  greatest_same : (f : ℕ → ℕ) (n m : ℕ) → Same g parts n m → greatest (λ k. f (part parts k)) (moves g n) ≡ greatest (λ k. f (part parts k)) (moves g m)
  greatest_same f n m s = omega (arith, greatest_into f n m s.there, greatest_into f m n s.back)

  pub same_bucket : (many n m : ℕ) → Same g parts n m → bucket g parts many n ≡ bucket g parts many m
  same_bucket many n m s =
      let a = s.one_part in
      let b = s.weighs in
      let c = greatest_same (scattered 40503) n m s in
      let d = greatest_same (scattered 30011) n m s in
      let e = greatest_same (scattered 12289) n m s in
      ap (λ (x : ℕ). x % many) (omega arith)
