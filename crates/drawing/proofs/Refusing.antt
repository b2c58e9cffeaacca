-- A refusal passes on.
use Rattle.std.proofs.Common.{◌≡◌, true, false, Ok, Err, Result, MatchResult, is_ok, refl, sym, ap, ◌∙◌}
use Rattle.drawing.specs.declared.refusal.Refusal.{Refusal}
use Rattle.drawing.specs.declared.refusal.Refusal.TheVariants.{Fault, Twice, Unknown, TooManyPlaces, TooManyMoves, TooLong, NoPlaces, Memory}
use Rattle.drawing.specs.Reading.{Why}
use Rattle.drawing.specs.Passes.{Refuses}

pub refuses_on : {A B : Type 0} (x : Result A Why) (y : Result B Why) → ((w : Why) → x ≡ Err w → y ≡ Err w) → (e : Refusal) → Refuses x e → Refuses y e
refuses_on x y f (Fault n g) h = f _ h
refuses_on x y f (Twice n s) h = f _ h
refuses_on x y f (Unknown n s) h = f _ h
refuses_on x y f (TooManyPlaces n) h = f _ h
refuses_on x y f (TooManyMoves n) h = f _ h
refuses_on x y f TooLong h = f _ h
refuses_on x y f NoPlaces h = f _ h
refuses_on x y f Memory h = tt

-- an error that is told otherwise leaves what is no error
pub mapped : {A E F : Type 0} (P : E → Type 0) (r : Result A E) (q : Result A F) (x : A) → MatchResult r (λ y. q ≡ Ok y) P → is_ok q ≡ is_ok r → q ≡ Ok x → r ≡ Ok x
mapped P (Ok y) q x h v e = let same : y ≡ x = cc in ap Ok same
mapped P (Err d) q x h v e = let no : true ≡ false = sym (ap is_ok e) ∙ v in cc

pub unmapped : {A E F : Type 0} (r : Result A E) (q : Result A F) (y : F) → is_ok q ≡ is_ok r → q ≡ Err y → (d : E) × (r ≡ Err d)
unmapped (Ok x) q y v e = let no : false ≡ true = sym (ap is_ok e) ∙ v in cc
unmapped (Err d) q y v e = (d, refl)
