-- What each answer of `merge` promises.
use Rattle.std.proofs.Common.{◌≡◌, ℕ, ◌+◌, ◌*◌, ◌≤◌, Err, Result, List, length, refl, ap, ◌∙◌, arith}
use Rattle.std.proofs.lemmas.Result.{err_from_is_err_and}
use Rattle.std.specs.Result.{IsErr, IsErrAnd}
use Rattle.endless.specs.declared.refusal.Refusal.{Refusal}
use Rattle.endless.specs.declared.refusal.Refusal.TheVariants.{Few, NoGame, NoPlace, OutFull}
use Rattle.endless.specs.Accepting.{Accepts}
use Rattle.quotient.specs.Promises.{MergedSays, MergedPost}
use Rattle.quotient.proofs.Carrying.{theorems}

-- the words cannot be worked on
pub unaccepted : {s : List ℕ} {lent : ℕ} {to small : List ℕ} (refusal : Refusal) → Accepts s lent (Err refusal) → MergedPost s lent to small to small (Err refusal)
unaccepted Few h = record { says = (refl, refl); few = (λ x. refl, λ e. h); theorems = theorems }
unaccepted NoGame h = record { says = (h.1, refl, refl); few = (λ x. absurd (omega (arith, h.0)), λ e. cc); theorems = theorems }
unaccepted NoPlace h = absurd h
unaccepted OutFull h = absurd h

-- enough are lent
pub said : {s : List ℕ} {lent : ℕ} {to small to' small' : List ℕ} {r : Result ℕ Refusal} → 65536 + 4 * length s ≤ lent → (r ≡ Err Few → ⊥) → MergedSays s to small to' small' r → MergedPost s lent to small to' small' r
said enough other says = record { says = says; few = (λ x. absurd (omega arith), λ e. absurd (other e)); theorems = theorems }

-- what `?` hands on is the refusal itself
pub handed_on : (r : Result ℕ Refusal) (refusal : Refusal) → IsErr r × IsErrAnd r (λ x. x ≡ refusal) → r ≡ Err refusal
handed_on r refusal h = let t = err_from_is_err_and r h.1 in t.1 ∙ ap Err t.2
