-- Ranks that do not rise along a plan's moves and fall at the places of a weight: no round has that weight as its heaviest.
use Rattle.std.proofs.Common.{◌≡◌, ℕ, ◌<◌, ◌≤◌, Bool, true, false, List, length, sym, refl, subst, arith}
use Rattle.std.specs.Bool.{MatchBool}
use Rattle.std.specs.List.{AllWithin}
use Rattle.std.proofs.lemmas.Bool.{both_ways}
use Rattle.endless.specs.Games.{Game, whose, weight, Among}
use Rattle.endless.specs.Says.{Round, last, then1}
use Rattle.endless.specs.Sets.{Set, In, Each}
use Rattle.endless.specs.Graph.{moves}
use Rattle.endless.specs.Flaws.{Walk, Follows, FallsAt}
use Rattle.endless.proofs.Among.{among_at}

-- ---- no walk from a place of the weight to itself

module _ (g : Game) (X : Set) (w : ℕ) (plan : ℕ → ℕ) (k : ℕ) (ranks : List ℕ) (falls : (n : ℕ) → In X n → weight g n ≤ k → FallsAt g X w plan k ranks n) where
  starts : (n : ℕ) (ns : List ℕ) (x : ℕ) → Round g w plan n ns x → Each (λ j. In X j × (weight g j ≤ k)) ns → In X n × (weight g n ≤ k)
  starts n ns x (last a b) e = e.0
  starts n ns x (then1 a b r) e = e.0

  falling : (n : ℕ) (ns : List ℕ) (x : ℕ) → Round g w plan n ns x → Each (λ j. In X j × (weight g j ≤ k)) ns → In X x × (weight g x ≤ k) → Follows g k ranks n x
  falling n ns x (last a b) e z = falls n e.0.0 e.0.1 x (a, b) z.0 z.1
  falling n ms x (then1 {m = m} {ns = ns} a b r) e z =
      let t = starts m ns x r e.1 in
      let here = falls n e.0.0 e.0.1 m (a, b) t.0 t.1 in
      let there = falling m ns x r e.1 z in
      (omega (arith, here.0, there.0), λ q. omega (arith, here.1 q, there.0))

  pub no_walk : (n : ℕ) → weight g n ≡ k → Walk g X w plan k n n → ⊥
  no_walk n e t = omega (arith, (falling n t.0 n t.1 t.2 (starts n t.0 n t.1 t.2)).1 e)

-- ---- one pass over the moves of a place

-- the ranks follow one another to m, if it counts
abbrev pub Along : Game → Set → ℕ → (ℕ → ℕ) → ℕ → List ℕ → ℕ → ℕ → Type 0
Along g X w plan k ranks n m = (whose g n ≡ w → m ≡ plan n) → In X m → weight g m ≤ k → Follows g k ranks n m

pub along_all : (g : Game) (X : Set) (w : ℕ) (plan : ℕ → ℕ) (k : ℕ) (ranks : List ℕ) (n : ℕ) (items : List ℕ) → items ≡ moves g n → ((m : ℕ) → In X m → m < length g) → (Some_one : Type 0) (r : Bool)
    → MatchBool r (AllWithin (λ m. m < length g → Along g X w plan k ranks n m) items 0 (length items)) Some_one → r ≡ true → FallsAt g X w plan k ranks n
along_all g X w plan k ranks n items e inside Some_one true all is m step x =
    let t = among_at m items (subst (λ (y : List ℕ). Among m y) (sym e) step.0) in
    subst (λ (j : ℕ). j < length g → Along g X w plan k ranks n j) t.2 (all t.0 0 (omega arith) t.1) (inside m x) step.1 x
along_all g X w plan k ranks n items e inside Some_one false some is m step x = absurd (both_ways false refl is)
