-- Places put into new parts, one after the other.
use Rattle.std.proofs.Common.{◌≡◌, ℕ, suc, ◌+◌, ◌<◌, ◌≤◌, ◌⊎◌, List, length, get_or, set, sym, refl, ap, ◌∙◌, subst, inl, inr, arith}
use Rattle.std.proofs.lemmas.List.{get_or-set_same, get_or-set_other}
use Rattle.std.proofs.lemmas.Nat.{mod_below}
use Rattle.std.proofs.lemmas.Bool.{cases_eq, cases_lt}
use Rattle.endless.specs.Games.{Game}
use Rattle.quotient.specs.Groups.{SameGroups}
use Rattle.quotient.specs.declared.group.Groups.{Groups}
use Rattle.quotient.specs.Refining.{part, Alike, look, Linked, here, next, Descends, Grouping, Grouped}
use Rattle.quotient.proofs.Sames.{same_self, same_back, same_then, same_bucket}
use Rattle.quotient.proofs.Chains.{linked_cases, linked_none, relink}

pub grouping_none : (g : Game) (parts list made heads links : List ℕ) → ((k : ℕ) → get_or heads k 0 ≡ 0) → ((k : ℕ) → get_or links k 0 ≡ 0) → Grouping g parts list made heads links 0
grouping_none g parts list made heads links h l = record {
  low = λ n x. absurd (omega arith);
  lead = λ n x. absurd (omega arith);
  same = λ n x. absurd (omega arith);
  apart = λ k n x y. absurd (omega arith);
  linked = λ k x. absurd (omega arith);
  chained = λ b k x y. absurd (linked_none y (h b));
  starts = λ b x. omega (arith, h b);
  descends = λ k. omega (arith, l k);
}

module _ {g : Game} {parts list made heads links : List ℕ} {i : ℕ} (so_far : Grouping g parts list made heads links i) (more : i < length list) (long : length list ≤ length made) where
  -- those before stay as they are
  before : (x n : ℕ) → n < i → part (set made i x) n ≡ part made n
  before x n h = get_or-set_other made i n x 0 (λ e. omega arith)

  now : (x : ℕ) → part (set made i x) i ≡ x
  now x = get_or-set_same made i x 0 (omega arith)

  which : (n : ℕ) → n < i + 1 → (n < i) ⊎ (n ≡ i)
  which n h = go (cases_eq n i)
    where
      go : (n ≡ i) ⊎ (n ≡ i → ⊥) → (n < i) ⊎ (n ≡ i)
      go (inl e) = inr e
      go (inr d) = inl (omega arith)

  lead_before : (x n : ℕ) → n < i → part (set made i x) (part (set made i x) n) ≡ part (set made i x) n
  lead_before x n h =
      let l = so_far.low n h in
      ap (part (set made i x)) (before x n h) ∙ before x (part made n) (omega arith) ∙ so_far.lead n h ∙ sym (before x n h)

  same_before : (x n : ℕ) → n < i → Alike g parts list n (part (set made i x) n)
  same_before x n h = subst (Alike g parts list n) (sym (before x n h)) (so_far.same n h)

  -- the place is not told apart from a first place, which its chain has
  module _ {lead : ℕ} (found : Linked links (get_or heads (look g parts list i) 0) lead) (alike : Alike g parts list i lead) (below : look g parts list i < length list) where
    first_lead : (lead < i) × (part made lead ≡ lead)
    first_lead = so_far.chained (look g parts list i) lead below found

    not_first : (n : ℕ) → n ≡ i → part (set made i lead) n ≡ n → ⊥
    not_first n e f = let a : lead ≡ n = sym (now lead) ∙ ap (part (set made i lead)) (sym e) ∙ f in omega (arith, first_lead.0)

    was_first : (n : ℕ) → n < i → part (set made i lead) n ≡ n → part made n ≡ n
    was_first n h f = sym (before lead n h) ∙ f

    pub grouping_found : Grouping g parts list (set made i lead) heads links (i + 1)
    grouping_found = record {
      low = λ n h. low n (which n h);
      lead = λ n h. leads n (which n h);
      same = λ n h. same n (which n h);
      apart = λ l n h k a b. apart l n h (which n k) a b;
      linked = λ l h f. linked l (which l h) f;
      chained = λ b l h x. let t = so_far.chained b l h x in (omega (arith, t.0), before lead l t.0 ∙ t.1);
      starts = λ b h. omega (arith, so_far.starts b h);
      descends = so_far.descends;
    }
      where
        low : (n : ℕ) → (n < i) ⊎ (n ≡ i) → part (set made i lead) n ≤ n
        low n (inl h) = omega (arith, before lead n h, so_far.low n h)
        low n (inr e) = omega (arith, ap (part (set made i lead)) e, now lead, first_lead.0)

        leads : (n : ℕ) → (n < i) ⊎ (n ≡ i) → part (set made i lead) (part (set made i lead) n) ≡ part (set made i lead) n
        leads n (inl h) = lead_before lead n h
        leads n (inr e) = let a = ap (part (set made i lead)) e ∙ now lead in ap (part (set made i lead)) a ∙ before lead lead first_lead.0 ∙ first_lead.1 ∙ sym a

        same : (n : ℕ) → (n < i) ⊎ (n ≡ i) → Alike g parts list n (part (set made i lead) n)
        same n (inl h) = same_before lead n h
        same n (inr e) = subst (λ (k : ℕ). Alike g parts list k (part (set made i lead) k)) (sym e) (subst (Alike g parts list i) (sym (now lead)) alike)

        apart : (l n : ℕ) → l < n → (n < i) ⊎ (n ≡ i) → part (set made i lead) l ≡ l → part (set made i lead) n ≡ n → Alike g parts list n l → ⊥
        apart l n h (inl k) a b = so_far.apart l n h k (was_first l (omega arith) a) (was_first n k b)
        apart l n h (inr e) a b = absurd (not_first n e b)

        linked : (l : ℕ) → (l < i) ⊎ (l ≡ i) → part (set made i lead) l ≡ l → Linked links (get_or heads (look g parts list l) 0) l
        linked l (inl h) f = so_far.linked l h (was_first l h f)
        linked l (inr e) f = absurd (not_first l e f)

  -- it is told apart from all that its chain has
  module _ (none : (l : ℕ) → Linked links (get_or heads (look g parts list i) 0) l → Alike g parts list i l → ⊥) (inside : (l : ℕ) → look g parts list l < length list) (heads_long : length heads ≡ length list) (links_long : length links ≡ length list) where
    abbrev b₀ : ℕ
    b₀ = look g parts list i

    below : b₀ < length list
    below = inside i

    abbrev heads' : List ℕ
    heads' = set heads b₀ (i + 1)

    abbrev links' : List ℕ
    links' = set links i (get_or heads b₀ 0)

    abbrev made' : List ℕ
    made' = set made i i

    head_here : get_or heads' b₀ 0 ≡ suc i
    head_here = get_or-set_same heads b₀ (i + 1) 0 (omega arith) ∙ (omega arith)

    head_else : (b : ℕ) → (b ≡ b₀ → ⊥) → get_or heads' b 0 ≡ get_or heads b 0
    head_else b d = get_or-set_other heads b₀ b (i + 1) 0 d

    link_here : get_or links' i 0 ≡ get_or heads b₀ 0
    link_here = get_or-set_same links i (get_or heads b₀ 0) 0 (omega arith)

    link_else : (k : ℕ) → k < i → get_or links' k 0 ≡ get_or links k 0
    link_else k h = get_or-set_other links i k (get_or heads b₀ 0) 0 (λ e. omega arith)

    down : Descends links'
    down k = go (cases_eq k i)
      where
        go : (k ≡ i) ⊎ (k ≡ i → ⊥) → get_or links' k 0 ≤ k
        go (inl e) = omega (arith, ap (λ (j : ℕ). get_or links' j 0) e, link_here, so_far.starts b₀ below)
        go (inr d) = omega (arith, get_or-set_other links i k (get_or heads b₀ 0) 0 d, so_far.descends k)

    -- a chain of before, and back
    to_new : {x n : ℕ} → x ≤ i → Linked links x n → Linked links' x n
    to_new h l = relink link_else so_far.descends l h

    to_old : {x n : ℕ} → x ≤ i → Linked links' x n → Linked links x n
    to_old h l = relink (λ k h. sym (link_else k h)) down l h

    first_before : (n : ℕ) → n < i → part made' n ≡ n → part made n ≡ n
    first_before n h f = sym (before i n h) ∙ f

    pub grouping_new : Grouping g parts list made' heads' links' (i + 1)
    grouping_new = record {
      low = λ n h. low n (which n h);
      lead = λ n h. leads n (which n h);
      same = λ n h. same n (which n h);
      apart = λ l n h k a b. apart l n h (which n k) a b;
      linked = λ l h f. linked l (which l h) f (cases_eq (look g parts list l) b₀);
      chained = λ b l h x. chained b l h x (cases_eq b b₀);
      starts = λ b h. starts b h (cases_eq b b₀);
      descends = down;
    }
      where
        low : (n : ℕ) → (n < i) ⊎ (n ≡ i) → part made' n ≤ n
        low n (inl h) = omega (arith, before i n h, so_far.low n h)
        low n (inr e) = omega (arith, ap (part made') e, now i)

        leads : (n : ℕ) → (n < i) ⊎ (n ≡ i) → part made' (part made' n) ≡ part made' n
        leads n (inl h) = lead_before i n h
        leads n (inr e) = let a = ap (part made') e ∙ now i in ap (part made') a ∙ now i ∙ sym a

        same : (n : ℕ) → (n < i) ⊎ (n ≡ i) → Alike g parts list n (part made' n)
        same n (inl h) = same_before i n h
        same n (inr e) = subst (λ (k : ℕ). Alike g parts list k (part made' k)) (sym e) (subst (Alike g parts list i) (sym (now i)) (same_self g parts (part list i)))

        apart : (l n : ℕ) → l < n → (n < i) ⊎ (n ≡ i) → part made' l ≡ l → part made' n ≡ n → Alike g parts list n l → ⊥
        apart l n h (inl k) a b s = so_far.apart l n h k (first_before l (omega arith) a) (first_before n k b) s
        apart l n h (inr e) a b s =
            let x : Alike g parts list i l = subst (λ (k : ℕ). Alike g parts list k l) e s in
            none l (subst (λ (b : ℕ). Linked links (get_or heads b 0) l) (sym (same_bucket g parts (length list) (part list i) (part list l) x)) (so_far.linked l (omega arith) (first_before l (omega arith) a))) x

        linked : (l : ℕ) → (l < i) ⊎ (l ≡ i) → part made' l ≡ l → (look g parts list l ≡ b₀) ⊎ (look g parts list l ≡ b₀ → ⊥) → Linked links' (get_or heads' (look g parts list l) 0) l
        linked l (inl h) f (inr d) = subst (λ (x : ℕ). Linked links' x l) (sym (head_else _ d)) (to_new (so_far.starts _ (inside l)) (so_far.linked l h (first_before l h f)))
        linked l (inl h) f (inl e) =
            let old : Linked links (get_or heads b₀ 0) l = subst (λ (b : ℕ). Linked links (get_or heads b 0) l) e (so_far.linked l h (first_before l h f)) in
            let behind : Linked links' (get_or links' i 0) l = subst (λ (x : ℕ). Linked links' x l) (sym link_here) (to_new (so_far.starts b₀ below) old) in
            subst (λ (x : ℕ). Linked links' x l) (sym (ap (λ (b : ℕ). get_or heads' b 0) e ∙ head_here)) (next behind)
        linked l (inr s) f c = subst (λ (k : ℕ). Linked links' (get_or heads' (look g parts list k) 0) k) (sym s) (subst (λ (x : ℕ). Linked links' x i) (sym head_here) here)

        chained : (b l : ℕ) → b < length list → Linked links' (get_or heads' b 0) l → (b ≡ b₀) ⊎ (b ≡ b₀ → ⊥) → (l < i + 1) × (part made' l ≡ l)
        chained b l h x (inr d) =
            let t = so_far.chained b l h (to_old (so_far.starts b h) (subst (λ (y : ℕ). Linked links' y l) (head_else b d) x)) in
            (omega (arith, t.0), before i l t.0 ∙ t.1)
        chained b l h x (inl e) = go (linked_cases i x (ap (λ (c : ℕ). get_or heads' c 0) e ∙ head_here))
          where
            go : (l ≡ i) ⊎ Linked links' (get_or links' i 0) l → (l < i + 1) × (part made' l ≡ l)
            go (inl s) = (omega arith, ap (part made') s ∙ now i ∙ sym s)
            go (inr y) =
                let t = so_far.chained b₀ l below (to_old (so_far.starts b₀ below) (subst (λ (z : ℕ). Linked links' z l) link_here y)) in
                (omega (arith, t.0), before i l t.0 ∙ t.1)

        starts : (b : ℕ) → b < length list → (b ≡ b₀) ⊎ (b ≡ b₀ → ⊥) → get_or heads' b 0 ≤ i + 1
        starts b h (inl e) = omega (arith, ap (λ (c : ℕ). get_or heads' c 0) e, head_here)
        starts b h (inr d) = omega (arith, head_else b d, so_far.starts b h)

-- a bucket is one of as many as the list has places
pub look_below : (g : Game) (parts list : List ℕ) → 0 < length list → (n : ℕ) → look g parts list n < length list
look_below g parts list some n = mod_below _ (length list) some

-- all are
pub grouping_all : {g : Game} {parts list made heads links : List ℕ} {i : ℕ} → i ≡ length list → Grouping g parts list made heads links i → Grouped g parts list made
grouping_all {g} {parts} {list} {made} {i = i} all k = record {
  low = λ n h. k.low n (omega arith);
  lead = λ n h. k.lead n (omega arith);
  same = λ n h. k.same n (omega arith);
  one = λ n m h j s.
      let x : Alike g parts list (part made n) (part made m) = same_then (same_back (k.same n (omega arith))) (same_then s (k.same m (omega arith))) in
      one n m (omega arith) (omega arith) x (cases_lt (part made n) (part made m)) (cases_lt (part made m) (part made n));
}
  where
    one : (n m : ℕ) → n < i → m < i → Alike g parts list (part made n) (part made m) → (part made n < part made m) ⊎ (part made m ≤ part made n) → (part made m < part made n) ⊎ (part made n ≤ part made m) → part made n ≡ part made m
    one n m h j x (inl a) c = absurd (k.apart (part made n) (part made m) a (omega (arith, k.low m j)) (k.lead n h) (k.lead m j) (same_back x))
    one n m h j x (inr a) (inl c) = absurd (k.apart (part made m) (part made n) c (omega (arith, k.low n h)) (k.lead m j) (k.lead n h) x)
    one n m h j x (inr a) (inr c) = omega arith

-- the same lent words, after no call and after two
pub groups_none : (a : Groups) → SameGroups a a
groups_none a = record { made = refl; heads = refl; links = refl; set = refl; made_long = refl; heads_long = refl; links_long = refl; set_long = refl }

pub groups_then : {a b c : Groups} → SameGroups a b → SameGroups b c → SameGroups a c
groups_then s t = record { made = t.made ∙ s.made; heads = t.heads ∙ s.heads; links = t.links ∙ s.links; set = t.set ∙ s.set; made_long = t.made_long ∙ s.made_long; heads_long = t.heads_long ∙ s.heads_long; links_long = t.links_long ∙ s.links_long; set_long = t.set_long ∙ s.set_long }
