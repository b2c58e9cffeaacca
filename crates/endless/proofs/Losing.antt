-- Rounds that the other side wins: each has a heaviest place, from which it can be gone round.
use Rattle.std.proofs.Common.{◌≡◌, ℕ, ◌%◌, ◌<◌, ◌≤◌, max, ◌⊎◌, List, [], ◌∷◌, sym, refl, ap, ◌∙◌, subst, inl, inr, arith}
use Rattle.std.proofs.lemmas.Bool.{cases_eq, cases_lt}
use Rattle.endless.specs.Games.{Game, Reads, whose, weight, Among, first, later, May}
use Rattle.endless.specs.Says.{Round, last, then1, heaviest}
use Rattle.endless.specs.Sets.{Set, In, Each}
use Rattle.endless.specs.Flaws.{Walk, NoRoundOf, RoundOf, RoundsWon, LosesRound}
use Rattle.endless.proofs.Places.{is_other, weight_below}
use Rattle.endless.proofs.Sets.{each_map, each_both, each_at, among_weighs, each_weighs}

module _ (g : Game) (w : ℕ) (plan : ℕ → ℕ) (P : ℕ → Type 0) where
  -- steps from n to m through places of which P is so
  abbrev Way : ℕ → ℕ → Type 0
  Way n m = (ns : List ℕ) × Round g w plan n ns m × Each P ns

  -- one way after another
  way_then : (n m k : ℕ) (ns : List ℕ) → Round g w plan n ns m → Each P ns → Way m k → Way n k
  way_then n m k ns (last a b) e t = (n ∷ t.0, then1 a b t.1, (e.0, t.2))
  way_then n m k ms (then1 {m = j} {ns = ns} a b r) e t = let s = way_then j m k ns r e.1 t in (n ∷ s.0, then1 a b s.1, (e.0, s.2))

  -- a way past m is one from m, and one to m unless it begins there
  way_at : (n k m : ℕ) (ns : List ℕ) → Round g w plan n ns k → Each P ns → Among m ns → Way m k × ((n ≡ m) ⊎ Way n m)
  way_at n k m ms (last a b) e first = ((n ∷ [], last a b, e), inl refl)
  way_at n k m ms (last a b) e (later i) = elim i [ ]
  way_at n k m ms (then1 a b r) e first = ((ms, then1 a b r, e), inl refl)
  way_at n k m ms (then1 {m = j} {ns = ns} a b r) e (later i) = go (way_at j k m ns r e.1 i)
    where
      go : Way m k × ((j ≡ m) ⊎ Way j m) → Way m k × ((n ≡ m) ⊎ Way n m)
      go (t, inl q) = let s = subst (λ (z : ℕ). May g n z × (whose g n ≡ w → z ≡ plan n)) q (a, b) in (t, inr (n ∷ [], last s.0 s.1, (e.0, tt)))
      go (t, inr u) = (t, inr (n ∷ u.0, then1 a b u.1, (e.0, u.2)))

  -- a round can be begun at each of its places
  pub turned : (n m : ℕ) (ns : List ℕ) → Round g w plan n ns n → Each P ns → Among m ns → Way m m
  turned n m ns r e i = go (way_at n n m ns r e i)
    where
      go : Way m n × ((n ≡ m) ⊎ Way n m) → Way m m
      go (t, inl q) = subst (λ (z : ℕ). Way m z) q t
      go (t, inr u) = way_then m n m t.0 t.1 t.2 u

-- some place of a round has its heaviest weight
pub heaviest_place : (g : Game) (w : ℕ) (plan : ℕ → ℕ) (n k : ℕ) (ns : List ℕ) → Round g w plan n ns k → (m : ℕ) × Among m ns × (weight g m ≡ heaviest g ns)
heaviest_place g w plan n k ms (last a b) = (n, first, omega arith)
heaviest_place g w plan n k ms (then1 {m = j} {ns = ns} a b r) = go (heaviest_place g w plan j k ns r) (cases_lt (weight g n) (heaviest g ns))
  where
    go : (m : ℕ) × Among m ns × (weight g m ≡ heaviest g ns) → (weight g n < heaviest g ns) ⊎ (heaviest g ns ≤ weight g n) → (m : ℕ) × Among m (n ∷ ns) × (weight g m ≡ max (weight g n) (heaviest g ns))
    go t (inl l) = (t.0, later t.1, omega (arith, t.2))
    go t (inr l) = (n, first, omega arith)

each_most : (g : Game) (ns : List ℕ) → Each (λ j. weight g j ≤ heaviest g ns) ns
each_most g ns = go ns (λ m a. among_weighs g m ns a)
  where
    go : (ms : List ℕ) → ((m : ℕ) → Among m ms → weight g m ≤ heaviest g ns) → Each (λ j. weight g j ≤ heaviest g ns) ms
    go [] h = tt
    go (m ∷ ms) h = (h m first, go ms (λ j a. h j (later a)))

-- so a round of the other side's kind is a walk from its heaviest place to itself
pub round_walk : (g : Game) (X : Set) (w : ℕ) (plan : ℕ → ℕ) (n : ℕ) (ns : List ℕ) → Each (In X) ns → Round g w plan n ns n → (m : ℕ) × In X m × (weight g m ≡ heaviest g ns) × Walk g X w plan (weight g m) m m
round_walk g X w plan n ns e r =
    let t = heaviest_place g w plan n n ns r in
    let both = each_both (In X) (λ j. weight g j ≤ heaviest g ns) ns e (each_most g ns) in (
      t.0,
      each_at (In X) t.0 ns e t.1,
      t.2,
      turned g w plan (λ j. In X j × (weight g j ≤ weight g t.0)) n t.0 ns r (each_map (λ j z. (z.0, omega (arith, z.1, t.2))) ns both) t.1,
    )

-- and a walk from a place to itself past none that is heavier is a round
walk_starts : (g : Game) (w : ℕ) (plan : ℕ → ℕ) (n k : ℕ) (ns : List ℕ) → Round g w plan n ns k → Among n ns
walk_starts g w plan n k ms (last a b) = first
walk_starts g w plan n k ms (then1 a b r) = first

pub walk_round : (g : Game) (X : Set) (w : ℕ) (plan : ℕ → ℕ) (n : ℕ) → w < 2 → (weight g n % 2 ≡ w → ⊥) → Walk g X w plan (weight g n) n n → LosesRound g X w plan n (weight g n)
walk_round g X w plan n l d t = record {
  places = t.0;
  inside = each_map (λ j z. z.0) t.0 t.2;
  round = t.1;
  weighs = omega (arith, among_weighs g n t.0 (walk_starts g w plan n n t.0 t.1), each_weighs g (weight g n) t.0 (each_map (λ j z. z.1) t.0 t.2));
  theirs = is_other w (weight g n % 2) l (omega arith) d;
}

-- found for a weight of the other side's kind
pub found_loses : (g : Game) (X : Set) (w : ℕ) (plan : ℕ → ℕ) (k n : ℕ) → w < 2 → (k % 2 ≡ w → ⊥) → RoundOf g X w plan k n → In X n × LosesRound g X w plan n (weight g n)
found_loses g X w plan k n l d t = (t.0, walk_round g X w plan n l (λ q. d (ap (λ (y : ℕ). y % 2) (sym t.1) ∙ q)) (subst (λ (j : ℕ). Walk g X w plan j n n) (sym t.1) t.2))

-- where there is none of any weight of that kind, all rounds are the side's
pub cleared_all : {s : List ℕ} {g : Game} (X : Set) (w : ℕ) (plan : ℕ → ℕ) → Reads s g → ((k : ℕ) → k < 256 → (k % 2 ≡ w → ⊥) → NoRoundOf g X w plan k) → RoundsWon g X w plan
cleared_all {s} {g} X w plan reads cleared n ns e r = go (cases_eq (heaviest g ns % 2) w)
  where
    go : (heaviest g ns % 2 ≡ w) ⊎ (heaviest g ns % 2 ≡ w → ⊥) → heaviest g ns % 2 ≡ w
    go (inl q) = q
    go (inr d) =
        let t = round_walk g X w plan n ns e r in
        absurd (cleared (weight g t.0) (weight_below reads t.0) (λ q. d (ap (λ (y : ℕ). y % 2) (sym t.2) ∙ q)) t.0 t.1 refl t.3)
