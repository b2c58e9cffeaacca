-- A set of which one place is taken: what is in it.
use Rattle.std.proofs.Common.{◌≡◌, ℕ, Bool, not, ◌&&◌, T, ◌⊎◌, List, refl, ap, ◌∙◌, subst, sym, inl, inr}
use Rattle.std.proofs.lemmas.Bool.{cases_eq, eq-eqb, ne_eqb, both_ways}
use Rattle.endless.specs.Sets.{In, Out, Within}
use Rattle.endless.specs.Bits.{members, Removed}
use Rattle.endless.proofs.Tests.{T_true}

-- a set without one of its places
module _ (l : List ℕ) (k : ℕ) (r : List ℕ) (rem : Removed l k r) where
  pub removed_out : Out (members r) k
  removed_out x = both_ways (members r k) (rem.are k ∙ ap (λ (b : Bool). not b && members l k) (eq-eqb k k refl)) (T_true _ x)

  pub removed_else : (n : ℕ) → (n ≡ k → ⊥) → members r n ≡ members l n
  removed_else n d = rem.are n ∙ ap (λ (b : Bool). not b && members l n) (ne_eqb n k d)

  pub removed_within : Within (members r) (members l)
  removed_within n x = go (cases_eq n k)
    where
      go : (n ≡ k) ⊎ (n ≡ k → ⊥) → In (members l) n
      go (inl e) = absurd (removed_out (subst (λ (j : ℕ). In (members r) j) e x))
      go (inr d) = subst T (removed_else n d) x

  pub removed_which : (n : ℕ) → In (members l) n → (n ≡ k) ⊎ In (members r) n
  removed_which n x = go (cases_eq n k)
    where
      go : (n ≡ k) ⊎ (n ≡ k → ⊥) → (n ≡ k) ⊎ In (members r) n
      go (inl e) = inl e
      go (inr d) = inr (subst T (sym (removed_else n d)) x)

  -- what is gone, but for that place, was not there before
  pub removed_still : (n : ℕ) → (n ≡ k → ⊥) → Out (members r) n → Out (members l) n
  removed_still n d o x = o (subst T (sym (removed_else n d)) x)
