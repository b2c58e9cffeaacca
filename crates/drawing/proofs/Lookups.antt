-- The place of a name, and of a move.
use Rattle.std.proofs.Common.{◌≡◌, ℕ, List, [], string_bytes, Some, None, ok_or, Option, Result, String, sym, refl, ap, ◌∙◌, subst}
use Rattle.std.specs.declared.alloc.Global.{Global}
use Rattle.std.proofs.lemmas.Option.{slice_get_within, slice_get-get_or, get_or_from_slice_get}
use Rattle.claims.specs.Answered.{Lacks}
use Rattle.claims.proofs.Tabled.{no_some}
use Rattle.drawing.specs.declared.answer_refusal.AnswerRefusal.{AnswerRefusal}
use Rattle.drawing.specs.declared.answer_refusal.AnswerRefusal.TheVariants.{Unknown}
use Rattle.drawing.specs.Reading.{index_of}
use Rattle.drawing.specs.Answering.{LookedUp}
use Rattle.drawing.proofs.Apartness.{index_is}
use Rattle.drawing.proofs.Indices.{index_some}

pub index_lacks : (names : List (List ℕ)) (x : List ℕ) → index_of x names ≡ None → Lacks names x
index_lacks names x e i h =
    let t = index_some x names i (slice_get_within names i x h) (get_or_from_slice_get names i x [] h) in
    no_some (sym e ∙ t.1)

pub looked_up : (n : ℕ) (names : List (List ℕ)) (x : List ℕ) (name : String Global) (o : Option ℕ) → string_bytes name ≡ x → o ≡ index_of x names → (r : Result ℕ AnswerRefusal) → r ≡ ok_or o (Unknown n name) → LookedUp n names x r
looked_up n names x name None e h r is = subst (LookedUp n names x) (sym is) (refl, e, index_lacks names x (sym h))
looked_up n names x name (Some i) e h r is =
    let t = index_is x names i (sym h) in
    subst (LookedUp n names x) (sym is) (slice_get-get_or names i [] t.0 ∙ ap Some t.1)
