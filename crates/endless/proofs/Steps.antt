-- The steps by which parts of a game are won: each takes any plan that goes the way of the parts' plans where these matter.
use Rattle.std.proofs.Common.{◌≡◌, ℕ, ◌%◌, ◌<◌, ◌≤◌, ◌⊎◌, List, length, sym, refl, ap, ◌∙◌, subst, inl, inr, arith}
use Rattle.std.proofs.lemmas.Bool.{cases_eq}
use Rattle.endless.specs.Games.{Game, Reads, whose, weight, Among, May}
use Rattle.endless.specs.Says.{Round, heaviest, WinsFrom}
use Rattle.endless.specs.Sets.{Set, In, Out, Within, minus, union, empty, whole, having, Each}
use Rattle.endless.specs.Subgames.{Subgame, Closed, Holds, Same, Else, Solves}
use Rattle.endless.specs.Attractors.{Attractor}
use Rattle.endless.proofs.Places.{side_below, to_place, has_move, is_other}
use Rattle.endless.proofs.Sets.{in_or_out, minus_in, minus_within, minus_out, union_left, union_right, union_which, empty_out, whole_in, whole_place, having_in, having_within, having_is, each_all, each_map, each_both, meets, among_weighs, each_weighs}
use Rattle.endless.proofs.Plays.{rounds_win}
use Rattle.endless.proofs.Rounds.{rounds_are_won}
use Rattle.endless.proofs.Within.{Steps, first_of, carried, all_or_none, no_fall, by_same}

-- there are two sides
pub else_is : {s : List ℕ} {g : Game} → Reads s g → (v w : ℕ) → v < 2 → w < 2 → (v ≡ w → ⊥) → Else g v w
else_is {s} {g} r v w lv lw d n e = is_other v (whose g n) lv (side_below r n) e ∙ sym (is_other v w lv lw (λ q. d (sym q)))

-- the whole game is a subgame
pub whole_subgame : {s : List ℕ} {g : Game} → Reads s g → Subgame g (whole g)
whole_subgame {s} {g} r = record {
  places = whole_place g;
  goes_on = λ n x. let t = has_move r n (whole_place g n x) in (t.0, t.1, whole_in g t.0 (to_place r n t.0 t.1));
}

-- a closed part of a subgame is a subgame
pub closed_subgame : {g : Game} {U R : Set} → Subgame g U → Closed g U R → Subgame g R
closed_subgame sub c = record {
  places = λ n x. sub.places n (c.within n x);
  goes_on = λ n x. let t = sub.goes_on n (c.within n x) in (t.0, t.1, c.stays n t.0 x t.1 t.2);
}

-- a subgame is one without an attractor's places
pub rest_subgame : {g : Game} {U : Set} {w : ℕ} {D A : Set} {plan rank : ℕ → ℕ} → Subgame g U → Attractor g U w D A plan rank → Subgame g (minus U A)
rest_subgame {g} {U} {w} {D} {A} {plan} {rank} sub att = record { places = λ n x. sub.places n (minus_within U A n x); goes_on = on }
  where
    on : (n : ℕ) → In (minus U A) n → (m : ℕ) × May g n m × In (minus U A) m
    on n x = go (cases_eq (whose g n) w)
      where
        u : In U n
        u = minus_within U A n x

        o : Out A n
        o = minus_out U A n x

        go : (whose g n ≡ w) ⊎ (whose g n ≡ w → ⊥) → (m : ℕ) × May g n m × In (minus U A) m
        go (inl e) = let t = sub.goes_on n u in (t.0, t.1, minus_in U A t.0 t.2 (λ y. att.no_way_in n t.0 u o e t.1 y))
        go (inr e) = let t = att.way_past n u o e in (t.0, t.1, minus_in U A t.0 t.2 t.3)

-- the same sets, told otherwise
pub subgame_as : {g : Game} (U V : Set) → Within U V → Within V U → Subgame g U → Subgame g V
subgame_as U V to fro sub = record { places = λ n x. sub.places n (fro n x); goes_on = λ n x. let t = sub.goes_on n (fro n x) in (t.0, t.1, to t.0 t.2) }

pub holds_as : {g : Game} {w : ℕ} {plan : ℕ → ℕ} (U V X Y : Set) → Within U V → Within V U → Within X Y → Within Y X → Holds g U X w plan → Holds g V Y w plan
holds_as U V X Y uv vu xy yx h = record {
  within = λ n y. uv n (h.within n (yx n y));
  may = λ n y e. let t = h.may n (yx n y) e in (t.0, xy _ t.1);
  held = λ n m y d a v. xy m (h.held n m (yx n y) d a (vu m v));
  rounds = λ n ns y r. h.rounds n ns (each_map yx ns y) r;
}

-- the same plan, told otherwise
pub holds_plan : {g : Game} {U X : Set} {w : ℕ} {σ : ℕ → ℕ} (π : ℕ → ℕ) → Same g w X π σ → Holds g U X w σ → Holds g U X w π
holds_plan {g} {U} {X} {w} {σ} π same h = record {
  within = h.within;
  may = λ n x e. subst (λ (k : ℕ). May g n k × In X k) (sym (same n x e)) (h.may n x e);
  held = h.held;
  rounds = λ n ns x r. h.rounds n ns x (by_same g w π (In X) σ same n ns n r x);
}

-- nothing is held of nothing
pub holds_empty : {g : Game} {U : Set} {w : ℕ} {plan : ℕ → ℕ} → Holds g U empty w plan
holds_empty {g} {U} {w} {plan} = record {
  within = λ n x. absurd (empty_out n x);
  may = λ n x e. absurd (empty_out n x);
  held = λ n m x d a u. absurd (empty_out n x);
  rounds = λ n ns x r. absurd (empty_out n (first_of g w plan (In empty) n ns n r x));
}

-- what a side holds no step leaves
dominion_step : {g : Game} {U X : Set} {w : ℕ} {σ : ℕ → ℕ} (π : ℕ → ℕ) (P : ℕ → Type 0) → Same g w X π σ → Holds g U X w σ → ((n : ℕ) → P n → In U n) → Steps g w π P (λ n m. In X n → In X m)
dominion_step {g} {U} {X} {w} {σ} π P same h u n m p q a b x = go (cases_eq (whose g n) w)
  where
    go : (whose g n ≡ w) ⊎ (whose g n ≡ w → ⊥) → In X m
    go (inl e) = subst (λ (k : ℕ). In X k) (sym (b e ∙ same n x e)) (h.may n x e).1
    go (inr e) = h.held n m x e a (u m q)

-- outside the targets a step from an attractor stays in it and falls
attractor_step : {g : Game} {U : Set} {w : ℕ} {D A : Set} {τ rank : ℕ → ℕ} (π : ℕ → ℕ) (P : ℕ → Type 0) → Same g w (minus A D) π τ → Attractor g U w D A τ rank → ((n : ℕ) → P n → In U n) → ((n : ℕ) → P n → Out D n) →
    Steps g w π P (λ n m. In A n → In A m × (rank m < rank n))
attractor_step {g} {U} {w} {D} {A} {τ} {rank} π P same att u o n m p q a b x = go (cases_eq (whose g n) w)
  where
    go : (whose g n ≡ w) ⊎ (whose g n ≡ w → ⊥) → In A m × (rank m < rank n)
    go (inl e) = let t = att.own n x (o n p) e in subst (λ (k : ℕ). In A k × (rank k < rank n)) (sym (b e ∙ same n (minus_in A D n x (o n p)) e)) (t.1, t.2)
    go (inr e) = att.forced n m x (o n p) e a (u m q)

-- no round lies in an attractor and misses its targets
no_round : {g : Game} {U : Set} {w : ℕ} {D A : Set} {τ rank : ℕ → ℕ} (π : ℕ → ℕ) → Same g w (minus A D) π τ → Attractor g U w D A τ rank → (n : ℕ) (ns : List ℕ) → Round g w π n ns n → Each (In A) ns → Each (Out D) ns → ⊥
no_round {g} {U} {w} {D} {A} {τ} {rank} π same att n ns r x o =
    no_fall g w π (λ n. In A n × Out D n) rank (λ n m p q a b. (attractor_step π (λ n. In A n × Out D n) same att (λ k z. att.within k z.0) (λ k z. z.1) n m p q a b p.0).1) n ns r (each_both (In A) (Out D) ns x o)

-- what the other side wins without an attractor's places it wins with them: nobody can bring it there
pub won_outside : {g : Game} {U : Set} {p q : ℕ} {D A X : Set} {σ τ rank : ℕ → ℕ} → Else g q p → Attractor g U p D A σ rank → Holds g (minus U A) X q τ → Holds g U X q τ
won_outside {g} {U} {p} {q} {D} {A} {X} els att h = record {
  within = λ n x. minus_within U A n (h.within n x);
  may = h.may;
  held = λ n m x d a u.
      let v = h.within n x in
      h.held n m x d a (minus_in U A m u (λ y. att.no_way_in n m (minus_within U A n v) (minus_out U A n v) (els n d) a y));
  rounds = h.rounds;
}

-- what is won in a closed part is won
pub closed_won : {g : Game} {U R X : Set} {w : ℕ} {σ : ℕ → ℕ} → Closed g U R → Holds g R X w σ → Holds g U X w σ
closed_won c h = record {
  within = λ n x. c.within n (h.within n x);
  may = h.may;
  held = λ n m x d a u. h.held n m x d a (c.stays n m (h.within n x) a u);
  rounds = h.rounds;
}

-- the attractor of what is won is won
pub attract_won : {g : Game} {U : Set} {w : ℕ} {X A : Set} {σ τ rank : ℕ → ℕ} (π : ℕ → ℕ) → Same g w X π σ → Same g w (minus A X) π τ → Holds g U X w σ → Attractor g U w X A τ rank → Holds g U A w π
attract_won {g} {U} {w} {X} {A} {σ} {τ} {rank} π same-x same-a h att = record { within = att.within; may = may; held = held; rounds = rounds }
  where
    may : (n : ℕ) → In A n → whose g n ≡ w → May g n (π n) × In A (π n)
    may n x e = go (in_or_out X n)
      where
        go : In X n ⊎ Out X n → May g n (π n) × In A (π n)
        go (inl y) = let t = h.may n y e in subst (λ (k : ℕ). May g n k × In A k) (sym (same-x n y e)) (t.0, att.targets (σ n) t.1)
        go (inr y) = let t = att.own n x y e in subst (λ (k : ℕ). May g n k × In A k) (sym (same-a n (minus_in A X n x y) e)) (t.0, t.1)

    held : (n m : ℕ) → In A n → (whose g n ≡ w → ⊥) → May g n m → In U m → In A m
    held n m x d a u = go (in_or_out X n)
      where
        go : In X n ⊎ Out X n → In A m
        go (inl y) = att.targets m (h.held n m y d a u)
        go (inr y) = (att.forced n m x y d a u).0

    rounds : (n : ℕ) (ns : List ℕ) → Each (In A) ns → Round g w π n ns n → heaviest g ns % 2 ≡ w
    rounds n ns x r = go (all_or_none g w π (In A) X (dominion_step π (In A) same-x h att.within) n ns r x)
      where
        go : Each (In X) ns ⊎ Each (Out X) ns → heaviest g ns % 2 ≡ w
        go (inl y) = h.rounds n ns y (by_same g w π (In X) σ same-x n ns n r y)
        go (inr o) = absurd (no_round π same-a att n ns r x o)

-- what is won, and what is won in the rest without it
pub union_won : {g : Game} {U : Set} {w : ℕ} {X Y : Set} {σ τ : ℕ → ℕ} (π : ℕ → ℕ) → Same g w X π σ → Same g w Y π τ → Holds g U X w σ → Holds g (minus U X) Y w τ → Holds g U (union X Y) w π
union_won {g} {U} {w} {X} {Y} {σ} {τ} π same-x same-y h k = record { within = within; may = may; held = held; rounds = rounds }
  where
    within : (n : ℕ) → In (union X Y) n → In U n
    within n z = go (union_which X Y n z)
      where
        go : In X n ⊎ In Y n → In U n
        go (inl x) = h.within n x
        go (inr y) = minus_within U X n (k.within n y)

    may : (n : ℕ) → In (union X Y) n → whose g n ≡ w → May g n (π n) × In (union X Y) (π n)
    may n z e = go (union_which X Y n z)
      where
        go : In X n ⊎ In Y n → May g n (π n) × In (union X Y) (π n)
        go (inl x) = let t = h.may n x e in subst (λ (m : ℕ). May g n m × In (union X Y) m) (sym (same-x n x e)) (t.0, union_left X Y (σ n) t.1)
        go (inr y) = let t = k.may n y e in subst (λ (m : ℕ). May g n m × In (union X Y) m) (sym (same-y n y e)) (t.0, union_right X Y (τ n) t.1)

    held : (n m : ℕ) → In (union X Y) n → (whose g n ≡ w → ⊥) → May g n m → In U m → In (union X Y) m
    held n m z d a u = go (union_which X Y n z) (in_or_out X m)
      where
        go : In X n ⊎ In Y n → In X m ⊎ Out X m → In (union X Y) m
        go s (inl x) = union_left X Y m x
        go (inl x) (inr o) = union_left X Y m (h.held n m x d a u)
        go (inr y) (inr o) = union_right X Y m (k.held n m y d a (minus_in U X m u o))

    rounds : (n : ℕ) (ns : List ℕ) → Each (In (union X Y)) ns → Round g w π n ns n → heaviest g ns % 2 ≡ w
    rounds n ns z r = go (all_or_none g w π (In (union X Y)) X (dominion_step π (In (union X Y)) same-x h within) n ns r z)
      where
        right : (n : ℕ) → In (union X Y) n × Out X n → In Y n
        right n t = pick (union_which X Y n t.0)
          where
            pick : In X n ⊎ In Y n → In Y n
            pick (inl x) = absurd (t.1 x)
            pick (inr y) = y

        go : Each (In X) ns ⊎ Each (Out X) ns → heaviest g ns % 2 ≡ w
        go (inl x) = h.rounds n ns x (by_same g w π (In X) σ same-x n ns n r x)
        go (inr o) =
            let y = each_map right ns (each_both (In (union X Y)) (Out X) ns z o) in
            k.rounds n ns y (by_same g w π (In Y) τ same-y n ns n r y)

-- if a side wins all that is left without the attractor of the heaviest places, and the heaviest weight is of its kind, it wins all
pub all_won : {g : Game} {U : Set} {w : ℕ} {D A Y : Set} {σ τ rank : ℕ → ℕ} (π : ℕ → ℕ) (h : ℕ) → h % 2 ≡ w → ((n : ℕ) → In U n → weight g n ≤ h) → ((n : ℕ) → In D n → weight g n ≡ h) →
    ((n : ℕ) → In D n → whose g n ≡ w → May g n (π n) × In U (π n)) → Same g w (minus A D) π τ → Same g w Y π σ → Attractor g U w D A τ rank → Within (minus U A) Y → Holds g (minus U A) Y w σ → Holds g U U w π
all_won {g} {U} {w} {D} {A} {Y} {σ} {τ} {rank} π h parity most heavy move same-a same-y att all k = record { within = λ n x. x; may = may; held = λ n m x d a u. u; rounds = rounds }
  where
    may : (n : ℕ) → In U n → whose g n ≡ w → May g n (π n) × In U (π n)
    may n x e = go (in_or_out D n) (in_or_out A n)
      where
        go : In D n ⊎ Out D n → In A n ⊎ Out A n → May g n (π n) × In U (π n)
        go (inl d) s = move n d e
        go (inr d) (inl a) = let t = att.own n a d e in subst (λ (m : ℕ). May g n m × In U m) (sym (same-a n (minus_in A D n a d) e)) (t.0, att.within (τ n) t.1)
        go (inr d) (inr a) =
            let y = all n (minus_in U A n x a) in
            let t = k.may n y e in
            subst (λ (m : ℕ). May g n m × In U m) (sym (same-y n y e)) (t.0, minus_within U A (σ n) (k.within (σ n) t.1))

    rounds : (n : ℕ) (ns : List ℕ) → Each (In U) ns → Round g w π n ns n → heaviest g ns % 2 ≡ w
    rounds n ns x r = go (meets D ns)
      where
        past : Each (Out D) ns → Each (In A) ns ⊎ Each (Out A) ns → heaviest g ns % 2 ≡ w
        past d (inl a) = absurd (no_round π same-a att n ns r a d)
        past d (inr a) =
            let y = each_map (λ m t. all m (minus_in U A m t.0 t.1)) ns (each_both (In U) (Out A) ns x a) in
            k.rounds n ns y (by_same g w π (In Y) σ same-y n ns n r y)

        go : ((m : ℕ) × Among m ns × In D m) ⊎ Each (Out D) ns → heaviest g ns % 2 ≡ w
        go (inl t) =
            let e : heaviest g ns ≡ h = omega (arith, heavy t.0 t.2, among_weighs g t.0 ns t.1, each_weighs g h ns (each_map most ns x)) in
            ap (λ (y : ℕ). y % 2) e ∙ parity
        go (inr d) = past d (all_or_none g w π (λ m. In U m × Out D m) A (λ n m p q a b y. (attractor_step π (λ m. In U m × Out D m) same-a att (λ m t. t.0) (λ m t. t.1) n m p q a b y).0) n ns r (each_both (In U) (Out D) ns x d))

-- a dominion in the whole game is a set from which the plan wins, and the other way round
pub holds_wins : {s : List ℕ} {g : Game} {w : ℕ} {X : Set} {plan : ℕ → ℕ} → Reads s g → w < 2 → Holds g (whole g) X w plan → WinsFrom g w plan (λ n. In X n)
holds_wins {s} {g} {w} {X} {plan} r l h = rounds_win s g w plan X r l h.may (λ n m x d a. h.held n m x d a (whole_in g m (to_place r n m a))) rounds
  where
    rounds : (n : ℕ) (ns : List ℕ) → In X n → Round g w plan n ns n → heaviest g ns % 2 ≡ w
    rounds n ns x c = h.rounds n ns (carried g w plan (λ m. Unit {0}) X step n ns n c (each_all (λ m. tt) ns) tt x).0 c
      where
        step : Steps g w plan (λ m. Unit {0}) (λ n m. In X n → In X m)
        step n m p q a b y = dominion_step plan (λ m. In (whole g) m) (λ n x e. refl) h (λ n x. x) n m (h.within n y) (whole_in g m (to_place r n m a)) a b y

pub wins_holds : {s : List ℕ} {g : Game} {w : ℕ} {U X : Set} {plan : ℕ → ℕ} → Reads s g → w < 2 → Within X U → WinsFrom g w plan (λ n. In X n) → Holds g U X w plan
wins_holds {s} {g} {w} {U} {X} {plan} r l u wins = record {
  within = u;
  may = wins.may;
  held = λ n m x d a v. wins.held n m x d a;
  rounds = λ n ns x c. rounds_are_won s g w plan X n ns r l wins (first_of g w plan (In X) n ns n c x) c;
}

-- so is a dominion in places that the other side cannot leave
pub trapped_wins : {s : List ℕ} {g : Game} {w : ℕ} {U X : Set} {plan : ℕ → ℕ} → Reads s g → w < 2 → ((n : ℕ) → In U n → n < length g) → ((n m : ℕ) → In U n → (whose g n ≡ w → ⊥) → May g n m → In U m) → Holds g U X w plan → WinsFrom g w plan (λ n. In X n)
trapped_wins {s} {g} {w} {U} {X} {plan} r l places stays h = holds_wins r l (record {
  within = λ n x. whole_in g n (places n (h.within n x));
  may = h.may;
  held = λ n m x d a u. h.held n m x d a (stays n m (h.within n x) d a);
  rounds = h.rounds;
})

-- a plan wins from the same places, told otherwise
pub wins_as : (g : Game) (w : ℕ) (plan : ℕ → ℕ) (P Q : ℕ → Type 0) → ((n : ℕ) → P n → Q n) → ((n : ℕ) → Q n → P n) → WinsFrom g w plan P → WinsFrom g w plan Q
wins_as g w plan P Q to fro wins = record {
  may = λ n x e. let t = wins.may n (fro n x) e in (t.0, to (plan n) t.1);
  held = λ n m x d a. to m (wins.held n m (fro n x) d a);
  not_lost = λ f x. wins.not_lost f (fro (f 0) x);
}

-- answers: the same one, told otherwise
pub solves_as : {g : Game} {U : Set} {sides plan : ℕ → ℕ} (sides' plan' : ℕ → ℕ) → ((n : ℕ) → In U n → sides' n ≡ sides n) → ((n : ℕ) → In U n → plan' n ≡ plan n) → Solves g U sides plan → Solves g U sides' plan'
solves_as {g} {U} {sides} {plan} sides' plan' same-sides same_plan s = record {
  one_of_two = λ n x. subst (λ (k : ℕ). k < 2) (sym (same-sides n x)) (s.one_of_two n x);
  won = λ w l. holds_as U U (having U sides w) (having U sides' w) (λ n x. x) (λ n x. x)
      (λ n x. let u = having_within U sides w n x in having_in U sides' w n u (same-sides n u ∙ having_is U sides w n x))
      (λ n x. let u = having_within U sides' w n x in having_in U sides w n u (sym (same-sides n u) ∙ having_is U sides' w n x))
      (holds_plan plan' (λ n x e. same_plan n (having_within U sides w n x)) (s.won w l));
}

-- a side that holds all of a subgame
pub solves_all : {g : Game} {U : Set} {w : ℕ} {plan : ℕ → ℕ} (sides : ℕ → ℕ) → w < 2 → ((n : ℕ) → In U n → sides n ≡ w) → Holds g U U w plan → Solves g U sides plan
solves_all {g} {U} {w} {plan} sides l is h = record { one_of_two = λ n x. subst (λ (k : ℕ). k < 2) (sym (is n x)) l; won = λ v lv. go v (cases_eq v w) }
  where
    go : (v : ℕ) → (v ≡ w) ⊎ (v ≡ w → ⊥) → Holds g U (having U sides v) v plan
    go v (inl e) = holds_as U U U (having U sides v) (λ n x. x) (λ n x. x) (λ n x. having_in U sides v n x (is n x ∙ sym e)) (having_within U sides v) (subst (λ (k : ℕ). Holds g U U k plan) (sym e) h)
    go v (inr d) = holds_as U U empty (having U sides v) (λ n x. x) (λ n x. x) (λ n x. absurd (empty_out n x)) (λ n x. absurd (d (sym (having_is U sides v n x) ∙ is n (having_within U sides v n x)))) holds_empty

-- an attractor that its side holds is taken away: an answer to what is left is one to all
pub peel : {s : List ℕ} {g : Game} {U : Set} {w : ℕ} {D A : Set} {τ rank sides plan : ℕ → ℕ} → Reads s g → w < 2 → Attractor g U w D A τ rank → Holds g U A w plan → ((n : ℕ) → In A n → sides n ≡ w) → Solves g (minus U A) sides plan → Solves g U sides plan
peel {s} {g} {U} {w} {D} {A} {τ} {rank} {sides} {plan} r l att h is rest = record { one_of_two = λ n x. below n x (in_or_out A n); won = λ v lv. go v lv (cases_eq v w) }
  where
    left : Set
    left = minus U A

    below : (n : ℕ) → In U n → In A n ⊎ Out A n → sides n < 2
    below n x (inl y) = subst (λ (k : ℕ). k < 2) (sym (is n y)) l
    below n x (inr y) = rest.one_of_two n (minus_in U A n x y)

    go : (v : ℕ) → v < 2 → (v ≡ w) ⊎ (v ≡ w → ⊥) → Holds g U (having U sides v) v plan
    go v lv (inl e) = subst (λ (k : ℕ). Holds g U (having U sides k) k plan) (sym e)
        (holds_as U U (union A (having left sides w)) (having U sides w) (λ n x. x) (λ n x. x) (λ n x. to n (union_which A (having left sides w) n x)) (λ n x. fro n x (in_or_out A n))
        (union_won plan (λ n x d. refl) (λ n x d. refl) h (rest.won w l)))
      where
        to : (n : ℕ) → In A n ⊎ In (having left sides w) n → In (having U sides w) n
        to n (inl y) = having_in U sides w n (att.within n y) (is n y)
        to n (inr y) = having_in U sides w n (minus_within U A n (having_within left sides w n y)) (having_is left sides w n y)

        fro : (n : ℕ) → In (having U sides w) n → In A n ⊎ Out A n → In (union A (having left sides w)) n
        fro n x (inl y) = union_left A (having left sides w) n y
        fro n x (inr y) = union_right A (having left sides w) n (having_in left sides w n (minus_in U A n (having_within U sides w n x) y) (having_is U sides w n x))
    go v lv (inr d) = holds_as U U (having left sides v) (having U sides v) (λ n x. x) (λ n x. x)
        (λ n x. having_in U sides v n (minus_within U A n (having_within left sides v n x)) (having_is left sides v n x))
        (λ n x. having_in left sides v n (minus_in U A n (having_within U sides v n x) (λ y. d (sym (having_is U sides v n x) ∙ is n y))) (having_is U sides v n x))
        (won_outside (else_is r v w lv l d) att (rest.won v lv))

-- an answer to the whole game: each side's plan wins from the places that are given to it
pub solves_wins : {s : List ℕ} {g : Game} {sides plan : ℕ → ℕ} → Reads s g → Solves g (whole g) sides plan → (w : ℕ) → w < 2 → WinsFrom g w plan (λ n. (n < length g) × (sides n ≡ w))
solves_wins {s} {g} {sides} {plan} r a w l = wins_as g w plan (λ n. In (having (whole g) sides w) n) (λ n. (n < length g) × (sides n ≡ w))
    (λ n x. (whole_place g n (having_within (whole g) sides w n x), having_is (whole g) sides w n x))
    (λ n t. having_in (whole g) sides w n (whole_in g n t.0) t.1)
    (holds_wins r l (a.won w l))
