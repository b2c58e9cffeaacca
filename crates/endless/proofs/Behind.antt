-- A loop over the members of a set: what holds of those that it has behind it.
use Rattle.std.proofs.Common.{◌≡◌, ℕ, ◌⊎◌, List, [], ◌∷◌, get_or, sym, subst, inl, inr}
use Rattle.std.proofs.lemmas.Bool.{cases_eq}
use Rattle.endless.specs.Games.{Among, first, later}
use Rattle.endless.specs.Sets.{In}
use Rattle.endless.specs.Bits.{members}
use Rattle.endless.specs.Listed.{listed_from}
use Rattle.endless.proofs.Among.{among_at, at_among, none_among, among_rest}
use Rattle.endless.proofs.MemberLists.{all_members, members_told}

-- P is so of the members that are not left
pub record Behind (l : List ℕ) (P : ℕ → Type 0) (left : List ℕ) : Type 0 where
  pub within : (n : ℕ) → Among n left → In (members l) n
  pub done : (n : ℕ) → In (members l) n → (Among n left → ⊥) → P n

pub behind_none : (l : List ℕ) (P : ℕ → Type 0) {left : List ℕ} → left ≡ listed_from 0 l → Behind l P left
behind_none l P {left} e = record {
  within = λ n a. (members_told l n).1 (among_at n (all_members l) (subst (Among n) e a));
  done = λ n x out. let t = (members_told l n).0 x in absurd (out (subst (λ (j : ℕ). Among j left) t.2 (subst (Among (get_or (all_members l) t.0 0)) (sym e) (at_among (all_members l) t.0 t.1))));
}

-- one member more
pub behind_more : {l : List ℕ} {P Q : ℕ → Type 0} {left rest : List ℕ} {x : ℕ} → left ≡ x ∷ rest → Behind l P left → ((n : ℕ) → (n ≡ x → ⊥) → P n → Q n) → Q x → Behind l Q rest
behind_more {l} {P} {Q} {left} {rest} {x} e so_far still here = record {
  within = λ n a. so_far.within n (subst (Among n) (sym e) (later a));
  done = λ n y out. go n y out (cases_eq n x);
}
  where
    go : (n : ℕ) → In (members l) n → (Among n rest → ⊥) → (n ≡ x) ⊎ (n ≡ x → ⊥) → Q n
    go n y out (inl s) = subst Q (sym s) here
    go n y out (inr d) = still n d (so_far.done n y (λ a. out (among_rest d (subst (Among n) e a))))

pub behind_first : {l : List ℕ} {P : ℕ → Type 0} {left rest : List ℕ} {x : ℕ} → left ≡ x ∷ rest → Behind l P left → In (members l) x
behind_first {x = x} e so_far = so_far.within x (subst (Among x) (sym e) first)

pub behind_all : {l : List ℕ} {P : ℕ → Type 0} {left : List ℕ} → left ≡ [] → Behind l P left → (n : ℕ) → In (members l) n → P n
behind_all {left = left} e so_far n x = so_far.done n x (none_among n left e)
