-- A round: what holds between two rounds holds after it.
use Rattle.std.proofs.Common.{◌≡◌, ℕ, ◌<◌, ◌≤◌, T, ◌⊎◌, List, length, get_or, take, sym, refl, ap, ◌∙◌, subst, inl, inr, arith}
use Rattle.std.proofs.lemmas.List.{get_or-take, length-take-le}
use Rattle.std.proofs.lemmas.Bool.{cases_lt}
use Rattle.endless.specs.Games.{Game, May}
use Rattle.endless.specs.Graph.{moves}
use Rattle.endless.specs.Sets.{In}
use Rattle.endless.specs.Bits.{members}
use Rattle.endless.proofs.Places.{to_place}
use Rattle.endless.proofs.Tests.{either_way}
use Rattle.quotient.specs.Gathering.{Into, Nothing}
use Rattle.quotient.specs.Refining.{part, Leads, Same, Sound, Stable}
use Rattle.quotient.specs.Partitions.{SamePartition}
use Rattle.quotient.specs.declared.round.Partition.{Partition}
use Rattle.quotient.specs.Rounds.{Sized, Taken, Fresh, Stirred, Named, Parting, Between}
use Rattle.quotient.proofs.Sames.{into_among, among_into, same_back, alike_same}
use Rattle.quotient.proofs.Returns.{named_few}

-- what may move into a part that is new, does so where places are not told apart
stirred_same : {g : Game} {parts : List ℕ} {first n m : ℕ} → Same g parts n m → Stirred g parts first n → Stirred g parts first m
stirred_same {g} {parts} {first} {n} {m} s t =
    let u = into_among parts (moves g m) (part parts t.0) (s.there (part parts t.0) (among_into parts (moves g n) t.0 t.1)) in
    (u.0, u.1, (let z = u.2 in let y = t.2 in omega arith))

module _ {g : Game} {parts sizes fresh out : List ℕ} {words first many listed : ℕ} (before : Between g parts sizes fresh out words first many listed)
    {sizes₁ list out₁ : List ℕ} (taken : Taken g parts sizes₁ list out₁ (length list))
    (came : (n j : ℕ) → j < listed → May g n (get_or fresh j 0) → In (members out₁) n) (which : (n : ℕ) → In (members out₁) n → (j : ℕ) × (j < listed) × May g n (get_or fresh j 0)) where
  -- the places that were out are those with a move into a part that was new
  out_stirred : (n : ℕ) → In (members out₁) n → Stirred g parts first n
  out_stirred n x = let t = which n x in (get_or fresh t.0 0, t.2, before.fresh.new t.0 t.1)

  stirred_out : (n : ℕ) → Stirred g parts first n → In (members out₁) n
  stirred_out n t =
      let f = before.fresh.all t.0 (to_place before.in_parts.playable n t.0 t.1) t.2 in
      came n f.0 f.1 (subst (May g n) (sym f.2) t.1)

  module _ {parts' : List ℕ} (parting : Parting g parts list parts' many) where
    stays : (n : ℕ) → (In (members out₁) n → ⊥) → part parts' n ≡ part parts n
    stays n d = parting.stays n (λ j h e. d (subst (In (members out₁)) e (taken.are_out j h)))

    -- of places that were not told apart
    one : (n m : ℕ) → part parts n ≡ part parts m → Same g parts n m → T (members out₁ n) ⊎ (T (members out₁ n) → ⊥) → T (members out₁ m) ⊎ (T (members out₁ m) → ⊥) → part parts' n ≡ part parts' m
    one n m e s (inl x) (inl y) =
        let a = taken.listed n x in
        let b = taken.listed m y in
        ap (part parts') (sym a.2) ∙ parting.one a.0 b.0 a.1 b.1 (subst (λ (k : ℕ). Same g parts k (get_or list b.0 0)) (sym a.2) (subst (Same g parts n) (sym b.2) s)) ∙ ap (part parts') b.2
    one n m e s (inl x) (inr y) = absurd (y (stirred_out m (stirred_same s (out_stirred n x))))
    one n m e s (inr x) (inl y) = absurd (x (stirred_out n (stirred_same (same_back s) (out_stirred m y))))
    one n m e s (inr x) (inr y) = stays n x ∙ e ∙ sym (stays m y)

    sound : Sound g parts'
    sound R n m alike ln lm x =
        let s = alike_same before.in_parts.playable before.sound R alike n m ln lm x in
        one n m s.one_part s (either_way (members out₁ n)) (either_way (members out₁ m))

    -- a part that is not new is that of before
    keeps : (n : ℕ) → part parts' n < many → T (members out₁ n) ⊎ (T (members out₁ n) → ⊥) → part parts' n ≡ part parts n
    keeps n h (inr x) = stays n x
    keeps n h (inl x) = let t = taken.listed n x in ap (part parts') (sym t.2) ∙ parting.keeps t.0 t.1 (let z = ap (part parts') t.2 in omega arith) ∙ ap (part parts) t.2

    keeps_move : (n m : ℕ) → (Stirred g parts' many n → ⊥) → May g n m → part parts' m ≡ part parts m
    keeps_move n m d may = go (cases_lt (part parts' m) many)
      where
        go : (part parts' m < many) ⊎ (many ≤ part parts' m) → part parts' m ≡ part parts m
        go (inl h) = keeps m h (either_way (members out₁ m))
        go (inr h) = absurd (d (m, may, h))

    -- places that the old parts do not tell apart, by the new ones
    leads_still : (n m : ℕ) → (Stirred g parts' many n → ⊥) → (Stirred g parts' many m → ⊥) → Leads g parts n m → Leads g parts' n m
    leads_still n m dn dm leads q x =
        let t = into_among parts' (moves g n) q x in
        let u = into_among parts (moves g m) (part parts t.0) (leads (part parts t.0) (among_into parts (moves g n) t.0 t.1)) in
        let e : part parts' u.0 ≡ q = keeps_move m u.0 dm u.1 ∙ u.2 ∙ sym (keeps_move n t.0 dn t.1) ∙ t.2 in
        subst (Into (moves g m) parts') e (among_into parts' (moves g m) u.0 u.1)

    same_still : (n m : ℕ) → part parts' n ≡ part parts' m → (Stirred g parts' many n → ⊥) → (Stirred g parts' many m → ⊥) → Same g parts n m → Same g parts' n m
    same_still n m e dn dm s = record { owns = s.owns; weighs = s.weighs; one_part = e; there = leads_still n m dn dm s.there; back = leads_still m n dm dn s.back }

    was_same : (n m : ℕ) → n < length g → m < length g → part parts' n ≡ part parts' m → T (members out₁ n) ⊎ (T (members out₁ n) → ⊥) → T (members out₁ m) ⊎ (T (members out₁ m) → ⊥) → Same g parts n m
    was_same n m ln lm e (inl x) c =
        let t = taken.listed n x in
        let u = parting.own t.0 m t.1 lm (sym e ∙ ap (part parts') (sym t.2)) in
        same_back (subst (Same g parts m) t.2 u.1)
    was_same n m ln lm e (inr x) (inl y) =
        let t = taken.listed m y in
        let u = parting.own t.0 n t.1 ln (e ∙ ap (part parts') (sym t.2)) in
        subst (Same g parts n) t.2 u.1
    was_same n m ln lm e (inr x) (inr y) = before.settled n m ln lm (sym (stays n x) ∙ e ∙ stays m y) (λ t. x (stirred_out n t)) (λ t. y (stirred_out m t))

    pub between : length parts' ≡ length g → {sizes' fresh' out' : List ℕ} {many' listed' : ℕ} → Sized g parts' out' sizes' → Nothing out' → Named g parts' many' → Fresh g parts' fresh' many listed' → Between g parts' sizes' fresh' out' words many many' listed'
    between long sized none_out named fresh_are = record {
      in_parts = record { playable = before.in_parts.playable; long = long; below = λ n h. (let b = named.below n h in let f = named_few named in omega arith); room = before.in_parts.room };
      sized = sized;
      none_out = none_out;
      named = named;
      fresh = fresh_are;
      sound = sound;
      settled = λ n m ln lm e dn dm. same_still n m e dn dm (was_same n m ln lm e (either_way (members out₁ n)) (either_way (members out₁ m)));
    }

-- where nothing is new, the parts are settled
pub stable : {g : Game} {parts sizes fresh out : List ℕ} {words first many listed : ℕ} → Between g parts sizes fresh out words first many listed → many ≤ first → Stable g parts
stable {g} {parts} {first = first} {many = many} k done n m ln lm e = k.settled n m ln lm e (none n) (none m)
  where
    none : (i : ℕ) → Stirred g parts first i → ⊥
    none i t = let b = k.named.below t.0 (to_place k.in_parts.playable i t.0 t.1) in let z = t.2 in omega arith

-- ---- of the places of new parts, as code cuts their list

pub fresh_front : {g : Game} {parts fresh : List ℕ} {first listed : ℕ} → Fresh g parts fresh first listed → (j : ℕ) → j < length (take listed fresh) → get_or (take listed fresh) j 0 < length g
fresh_front {g} {fresh = fresh} {listed = listed} f j h =
    let long = length-take-le listed fresh f.few in
    subst (λ (n : ℕ). n < length g) (sym (get_or-take listed fresh j 0 (omega arith))) (f.places j (omega arith))

pub came_front : (g : Game) (fresh out : List ℕ) {listed : ℕ} → listed ≤ length fresh → ((n j : ℕ) → j < length (take listed fresh) → May g n (get_or (take listed fresh) j 0) → In (members out) n)
    → (n j : ℕ) → j < listed → May g n (get_or fresh j 0) → In (members out) n
came_front g fresh out {listed} few came n j h may =
    let long = length-take-le listed fresh few in
    came n j (omega arith) (subst (May g n) (sym (get_or-take listed fresh j 0 h)) may)

pub which_front : (g : Game) (fresh out : List ℕ) {listed : ℕ} → listed ≤ length fresh → ((n : ℕ) → In (members out) n → (j : ℕ) × (j < length (take listed fresh)) × May g n (get_or (take listed fresh) j 0))
    → (n : ℕ) → In (members out) n → (j : ℕ) × (j < listed) × May g n (get_or fresh j 0)
which_front g fresh out {listed} few which n x =
    let long = length-take-le listed fresh few in
    let t = which n x in
    let h : t.0 < listed = omega (arith, t.1) in
    (t.0, h, subst (May g n) (get_or-take listed fresh t.0 0 h) t.2)

-- the same lent words, after no call and after two
pub partition_none : (a : Partition) → SamePartition a a
partition_none a = record { parts = refl; sizes = refl; out = refl; parts_long = refl; sizes_long = refl; out_long = refl }

pub partition_then : {a b c : Partition} → SamePartition a b → SamePartition b c → SamePartition a c
partition_then s t = record { parts = t.parts ∙ s.parts; sizes = t.sizes ∙ s.sizes; out = t.out ∙ s.out; parts_long = t.parts_long ∙ s.parts_long; sizes_long = t.sizes_long ∙ s.sizes_long; out_long = t.out_long ∙ s.out_long }
