-- The game that is led by an answer: its moves, and its words as they are made place by place.
use Rattle.std.proofs.Common.{◌≡◌, ℕ, zero, suc, ◌+◌, ◌<◌, ◌≤◌, Bool, true, false, cond, T, ◌⊎◌, List, [], ◌∷◌, ◌++◌, length, take, drop, replicate, sym, refl, ap, ◌∙◌, subst, inl, inr, add-one, arith}
use Rattle.std.proofs.lemmas.List.{length-replicate}
use Rattle.std.proofs.lemmas.Bool.{cases_eq}
use Rattle.endless.specs.Games.{Game, Reads, May}
use Rattle.endless.specs.Graph.{moves, edges}
use Rattle.endless.specs.Sets.{Set, In, Out}
use Rattle.endless.specs.View.{words_of}
use Rattle.endless.proofs.Places.{to_place}
use Rattle.moves.specs.Alone.{alone}
use Rattle.moves.specs.Marking.{before}
use Rattle.moves.specs.Led.{led_by}
use Rattle.moves.proofs.Alone.{length_alone, may_still, here_may, reads_alone}
use Rattle.moves.proofs.Lists.{start, before_more, words_alone}

-- ---- a place has as many moves as before

many_alone : (g : Game) (n m j : ℕ) → length (moves (alone g n m) j) ≡ length (moves g j)
many_alone [] n m j = refl
many_alone (p ∷ ps) zero m zero = length-replicate (length p.moves) m
many_alone (p ∷ ps) zero m (suc j) = refl
many_alone (p ∷ ps) (suc n) m zero = refl
many_alone (p ∷ ps) (suc n) m (suc j) = many_alone ps n m j

before_alone : (g : Game) (n m j : ℕ) → before (alone g n m) j ≡ before g j
before_alone [] n m j = refl
before_alone (p ∷ ps) n m zero = zero_take n
  where
    zero_take : (n : ℕ) → before (alone (p ∷ ps) n m) 0 ≡ 0
    zero_take zero = refl
    zero_take (suc n) = refl
before_alone (p ∷ ps) zero m (suc j) = ap (λ (k : ℕ). k + edges (take j ps)) (length-replicate (length p.moves) m)
before_alone (p ∷ ps) (suc n) m (suc j) = ap (λ (k : ℕ). length p.moves + k) (before_alone ps n m j)

module _ (g : Game) (keeps : Set) (plan : ℕ → ℕ) where
  -- what is so of a game and of each in which one place has one move alone
  all_along : (P : Game → Type 0) → P g → ((h : Game) (n m : ℕ) → P h → P (alone h n m)) → (k : ℕ) → P (led_by g keeps plan k)
  all_along P base step zero = base
  all_along P base step (suc k) = go (keeps k) (all_along P base step k)
    where
      go : (b : Bool) → P (led_by g keeps plan k) → P (cond b (alone (led_by g keeps plan k) k (plan k)) (led_by g keeps plan k))
      go true x = step (led_by g keeps plan k) k (plan k) x
      go false x = x

  pub length_led : (k : ℕ) → length (led_by g keeps plan k) ≡ length g
  length_led = all_along (λ h. length h ≡ length g) refl (λ h n m e. length_alone h n m ∙ e)

  pub many_led : (k j : ℕ) → length (moves (led_by g keeps plan k) j) ≡ length (moves g j)
  many_led k j = all_along (λ h. length (moves h j) ≡ length (moves g j)) refl (λ h n m e. many_alone h n m j ∙ e) k

  before_led : (k j : ℕ) → before (led_by g keeps plan k) j ≡ before g j
  before_led k j = all_along (λ h. before h j ≡ before g j) refl (λ h n m e. before_alone h n m j ∙ e) k

  -- ---- the moves

  -- at a place at which no plan's move was left alone
  led_else : (k j x : ℕ) → ((i : ℕ) → i < k → T (keeps i) → j ≡ i → ⊥) → May g j x → May (led_by g keeps plan k) j x
  led_else zero j x d a = a
  led_else (suc k) j x d a = go (keeps k) (d k (omega arith)) (led_else k j x (λ i h. d i (omega arith)) a)
    where
      go : (b : Bool) → (T b → j ≡ k → ⊥) → May (led_by g keeps plan k) j x → May (cond b (alone (led_by g keeps plan k) k (plan k)) (led_by g keeps plan k)) j x
      go true d y = may_still (led_by g keeps plan k) k (plan k) j x (d tt) y
      go false d y = y

  -- where no plan leads, one may move as before
  pub led_still : (k j x : ℕ) → Out keeps j → May g j x → May (led_by g keeps plan k) j x
  led_still k j x o = led_else k j x (λ i h t e. o (subst (In keeps) (sym e) t))

  -- and where one does, as it says
  pub led_here : (k j x : ℕ) → j < k → In keeps j → May g j x → May (led_by g keeps plan k) j (plan j)
  led_here zero j x h t a = absurd (omega arith)
  led_here (suc k) j x h t a = go (cases_eq j k) (led_here k j x)
    where
      now : (b : Bool) → T b → May (led_by g keeps plan k) k x → May (cond b (alone (led_by g keeps plan k) k (plan k)) (led_by g keeps plan k)) k (plan k)
      now true u y = here_may (led_by g keeps plan k) k (plan k) x y
      now false u y = absurd u

      later : (b : Bool) → (j ≡ k → ⊥) → May (led_by g keeps plan k) j (plan j) → May (cond b (alone (led_by g keeps plan k) k (plan k)) (led_by g keeps plan k)) j (plan j)
      later true d y = may_still (led_by g keeps plan k) k (plan k) j (plan j) d y
      later false d y = y

      go : (j ≡ k) ⊎ (j ≡ k → ⊥) → (j < k → In keeps j → May g j x → May (led_by g keeps plan k) j (plan j)) → May (led_by g keeps plan (suc k)) j (plan j)
      go (inl e) rest = subst (λ (i : ℕ). May (led_by g keeps plan (suc k)) i (plan i)) (sym e) (now (keeps k) (subst (In keeps) e t) (led_else k k x (λ i l u d. omega arith) (subst (λ (i : ℕ). May g i x) e a)))
      go (inr d) rest = later (keeps k) d (rest (omega arith) t a)

  -- ---- it is a game, and its words are made

  pub reads_led : {s : List ℕ} → Reads s g → ((j : ℕ) → j < length g → In keeps j → May g j (plan j)) → (k : ℕ) → k ≤ length g → Reads (words_of (led_by g keeps plan k)) (led_by g keeps plan k)
  reads_led r may zero h = record { is = refl; fine = r.fine }
  reads_led r may (suc k) h = go (keeps k) (λ t. to_place r k (plan k) (may k (omega arith) t)) (reads_led r may k (omega arith))
    where
      go : (b : Bool) → (T b → plan k < length g) → Reads (words_of (led_by g keeps plan k)) (led_by g keeps plan k) →
          Reads (words_of (cond b (alone (led_by g keeps plan k) k (plan k)) (led_by g keeps plan k))) (cond b (alone (led_by g keeps plan k) k (plan k)) (led_by g keeps plan k))
      go true inside q = reads_alone q k (plan k) (omega (arith, inside tt, length_led k))
      go false inside q = q

  -- up to the place k, whose moves stand from the word at `at` on
  pub record Leading (k at : ℕ) (made : List ℕ) : Type 0 where
    pub words : made ≡ words_of (led_by g keeps plan k)
    pub at_is : at ≡ 1 + start g k

  pub leading_none : {made : List ℕ} → made ≡ words_of g → Leading 0 4 made
  leading_none e = record { words = e; at_is = omega arith }

  module _ {k at c : ℕ} {made : List ℕ} (here : k < length g) (l : Leading k at made) (many : c ≡ length (moves g k)) where
    next : at + (3 + c) ≡ 1 + start g (k + 1)
    next = omega (arith, l.at_is, before_more g k here, many)

    pub leading_led : {made' : List ℕ} → In keeps k → made' ≡ take at made ++ (replicate c (plan k) ++ drop (at + c) made) → Leading (k + 1) (at + (3 + c)) made'
    leading_led {made'} t e = record { words = e ∙ ap (λ (w : List ℕ). take at w ++ (replicate c (plan k) ++ drop (at + c) w)) l.words ∙ sym this ∙ whole; at_is = next }
      where
        h : Game
        h = led_by g keeps plan k

        this : words_of (alone h k (plan k)) ≡ take at (words_of h) ++ (replicate c (plan k) ++ drop (at + c) (words_of h))
        this = words_alone h k (plan k) at c (omega (arith, here, length_led k)) (omega (arith, l.at_is, before_led k k)) (many ∙ sym (many_led k k))

        led_so : (b : Bool) → T b → alone h k (plan k) ≡ cond b (alone h k (plan k)) h
        led_so true u = refl
        led_so false u = absurd u

        whole : words_of (alone h k (plan k)) ≡ words_of (led_by g keeps plan (k + 1))
        whole = ap words_of (led_so (keeps k) t) ∙ ap (λ (i : ℕ). words_of (led_by g keeps plan i)) (sym (add-one k))

    pub leading_left : {made' : List ℕ} → Out keeps k → made' ≡ made → Leading (k + 1) (at + (3 + c)) made'
    leading_left {made'} o e = record { words = e ∙ l.words ∙ whole; at_is = next }
      where
        h : Game
        h = led_by g keeps plan k

        left_so : (b : Bool) → (T b → ⊥) → h ≡ cond b (alone h k (plan k)) h
        left_so true u = absurd (u tt)
        left_so false u = refl

        whole : words_of h ≡ words_of (led_by g keeps plan (k + 1))
        whole = ap words_of (left_so (keeps k) o) ∙ ap (λ (i : ℕ). words_of (led_by g keeps plan i)) (sym (add-one k))

  pub leading_all : {k at : ℕ} {made : List ℕ} → k ≡ length g → Leading k at made → made ≡ words_of (led_by g keeps plan (length g))
  leading_all {k} {at} {made} e l = l.words ∙ ap (λ (i : ℕ). words_of (led_by g keeps plan i)) e
