-- Rounds and sets: a set that no step leaves has all of a round or nothing of it; nothing falls all round a round.
use Rattle.std.proofs.Common.{◌≡◌, ℕ, ◌<◌, ◌⊎◌, List, ◌∷◌, ◌∙◌, inl, inr, arith}
use Rattle.endless.specs.Games.{Game, whose, May}
use Rattle.endless.specs.Says.{Round, last, then1}
use Rattle.endless.specs.Sets.{Set, In, Out, Each}
use Rattle.endless.proofs.Sets.{in_or_out}

-- a step of a round, between places of which P is so, gives R of them
abbrev pub Steps : Game → ℕ → (ℕ → ℕ) → (ℕ → Type 0) → (ℕ → ℕ → Type 0) → Type 0
Steps g w plan P R = (n m : ℕ) → P n → P m → May g n m → (whose g n ≡ w → m ≡ plan n) → R n m

module _ (g : Game) (w : ℕ) (plan : ℕ → ℕ) (P : ℕ → Type 0) where
  pub first_of : (n : ℕ) (ns : List ℕ) (k : ℕ) → Round g w plan n ns k → Each P ns → P n
  first_of n ns k (last a b) x = x.0
  first_of n ns k (then1 a b r) x = x.0

  module _ (X : Set) (step : Steps g w plan P (λ n m. In X n → In X m)) where
    pub carried : (n : ℕ) (ns : List ℕ) (k : ℕ) → Round g w plan n ns k → Each P ns → P k → In X n → Each (In X) ns × In X k
    carried n ns k (last a b) x z y = ((y, tt), step n k x.0 z a b y)
    carried n (ms) k (then1 {m = m} {ns = ns} a b r) x z y =
        let t = carried m ns k r x.1 z (step n m x.0 (first_of m ns k r x.1) a b y) in
        ((y, t.0), t.1)

    entered : (n : ℕ) (ns : List ℕ) (k : ℕ) → Round g w plan n ns k → Each P ns → P k → Each (Out X) ns ⊎ In X k
    entered n ns k (last a b) x z = go (in_or_out X n)
      where
        go : In X n ⊎ Out X n → (Out X n × Unit {0}) ⊎ In X k
        go (inl y) = inr (step n k x.0 z a b y)
        go (inr y) = inl (y, tt)
    entered n ms k (then1 {m = m} {ns = ns} a b r) x z = go (in_or_out X n) (entered m ns k r x.1 z)
      where
        go : In X n ⊎ Out X n → Each (Out X) ns ⊎ In X k → (Out X n × Each (Out X) ns) ⊎ In X k
        go (inl y) t = inr (carried n (n ∷ ns) k (then1 a b r) x z y).1
        go (inr y) (inl t) = inl (y, t)
        go (inr y) (inr t) = inr t

    pub all_or_none : (n : ℕ) (ns : List ℕ) → Round g w plan n ns n → Each P ns → Each (In X) ns ⊎ Each (Out X) ns
    all_or_none n ns r x = go (entered n ns n r x (first_of n ns n r x))
      where
        go : Each (Out X) ns ⊎ In X n → Each (In X) ns ⊎ Each (Out X) ns
        go (inl t) = inr t
        go (inr y) = inl (carried n ns n r x (first_of n ns n r x) y).0

  module _ (rank : ℕ → ℕ) (step : Steps g w plan P (λ n m. rank m < rank n)) where
    falls : (n : ℕ) (ns : List ℕ) (k : ℕ) → Round g w plan n ns k → Each P ns → P k → rank k < rank n
    falls n ns k (last a b) x z = step n k x.0 z a b
    falls n ms k (then1 {m = m} {ns = ns} a b r) x z = omega (arith, falls m ns k r x.1 z, step n m x.0 (first_of m ns k r x.1) a b)

    pub no_fall : (n : ℕ) (ns : List ℕ) → Round g w plan n ns n → Each P ns → ⊥
    no_fall n ns r x = omega (arith, falls n ns n r x (first_of n ns n r x))

  -- by another plan that goes the same way
  pub by_same : (other-plan : ℕ → ℕ) → ((n : ℕ) → P n → whose g n ≡ w → plan n ≡ other-plan n) → (n : ℕ) (ns : List ℕ) (k : ℕ) → Round g w plan n ns k → Each P ns → Round g w other-plan n ns k
  by_same o same n ns k (last a b) x = last a (λ e. b e ∙ same n x.0 e)
  by_same o same n ms k (then1 {m = m} {ns = ns} a b r) x = then1 a (λ e. b e ∙ same n x.0 e) (by_same o same m ns k r x.1)
