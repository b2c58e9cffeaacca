-- What one more is said of a node.
use Rattle.std.proofs.Common.{◌≡◌, ℕ, ◌+◌, ◌<◌, ◌≤◌, true, List, ◌∷◌, [], ◌++◌, map, length, take, get_or, set, slice_get, is_none, Some, None, Ok, Err, Option, sym, refl, ap, ◌∙◌, subst, ⊎_elim, arith}
use Rattle.std.specs.Option.{unwrap_or}
use Rattle.std.proofs.lemmas.List.{take_all, map_more, get_or-map}
use Rattle.std.proofs.lemmas.Bool.{cases_lt, cases_eq}
use Rattle.std.proofs.lemmas.Option.{slice_get_within, slice_get-get_or, get_or_from_slice_get}
use Rattle.claims.specs.declared.Claim.{Claim}
use Rattle.claims.specs.declared.NoWords.{NoWords}
use Rattle.claims.specs.declared.NoWords.TheVariants.{Unclaimed}
use Rattle.claims.specs.Answered.{Told, Differ, Goes}
use Rattle.claims.specs.Tables.{Worded, Wording, Meant, Tabled}
use Rattle.claims.proofs.Tabled.{tabled_more, tabled_all, unclaimed_within, unclaimed_untold}
use Rattle.pgsolver.specs.declared.Named.{Named}
use Rattle.pgsolver.specs.declared.solution_refusal.SolutionRefusal.{SolutionRefusal}
use Rattle.pgsolver.specs.declared.solution_refusal.SolutionRefusal.TheVariants.{Fault, Unknown, Twice, Missing, TooLong, TooManyNodes, SameId, Memory}
use Rattle.pgsolver.specs.declared.verdict.Verdict.{Verdict}
use Rattle.pgsolver.specs.Verdicts.{solution}
use Rattle.pgsolver.specs.Wrongs.{Again}
use Rattle.pgsolver.specs.Answering.{told, told_by, Tells, SaysOfOne, SaysOfSome, Says, Collected, Aimed, AllTold}
use Rattle.pgsolver.proofs.Writes.{IndexedTo}

-- ids are collected
pub id_named : (nodes : List Named) (n : ℕ) (d : Named) → n < length nodes → d ≡ get_or nodes n d → get_or (map (λ p. p.id) nodes) n 0 ≡ d.id
id_named nodes n d l is = get_or-map (λ p. p.id) nodes n d 0 l ∙ ap (λ p. p.id) (sym is)

pub indexed_all : (ids keys : List ℕ) (n : ℕ) → IndexedTo ids keys n → length ids ≤ n → (keys ≡ ids) × Differ ids
indexed_all ids keys n s l = (s.are ∙ take_all n ids l, differ)
  where
    differ : Differ ids
    differ i j x h k = ⊎_elim (λ b. absurd (s.apart i j b (omega (arith, within j k)) (at i h ∙ sym (at j k)))) (λ b. ⊎_elim (λ e. e) (λ ne. absurd (s.apart j i (omega arith) (omega (arith, within i h)) (at j k ∙ sym (at i h)))) (cases_eq i j)) (cases_lt i j)
      where
        within : (m : ℕ) → slice_get ids m ≡ Some x → m < length ids
        within m h = slice_get_within ids m x h

        at : (m : ℕ) → slice_get ids m ≡ Some x → get_or ids m 0 ≡ x
        at m h = get_or_from_slice_get ids m x 0 h

pub again_twice : (ids : List ℕ) (n x : ℕ) → get_or ids n 0 ≡ x → Again ids n → (i : ℕ) × (j : ℕ) × (i < j) × (slice_get ids i ≡ Some x) × (slice_get ids j ≡ Some x)
again_twice ids n x is a =
    let low : a.1.0 < length ids = omega (arith, a.0, a.1.1) in
    (a.1.0, n, a.1.1, slice_get-get_or ids a.1.0 0 low ∙ ap Some (a.1.2 ∙ is), slice_get-get_or ids n 0 a.0 ∙ ap Some is)

aim_goes : (text ids : List ℕ) (v : Verdict) (goal : Option ℕ) → Aimed text ids v (Ok goal) → Goes ids v.goal (unwrap_or goal 4294967295)
aim_goes text ids v None h = subst (λ x. Goes ids x 4294967295) (sym h) refl
aim_goes text ids v (Some i) h = subst (λ x. Goes ids x i) (sym h.1) h.2

module _ (text ids : List ℕ) (v : Verdict) (claims : List (Option Claim)) (differ : Differ ids) (i : ℕ) (at : slice_get ids i ≡ Some v.id) where
  pub tell_more : (goal : Option ℕ) → Aimed text ids v (Ok goal) → is_none (get_or claims i None) ≡ true → (new : List (Option Claim)) → new ≡ set claims i (Some (record { winner = v.winner; goal = goal })) → (ts : List (Told ℕ)) → Tabled ids ts claims → Tabled ids (ts ++ (told v ∷ [])) new
  tell_more goal aim none new e ts t =
      let meaning : Meant ids i (record { winner = v.winner; goal = goal }) (told v) = record { place = at; side = refl; goes = aim_goes text ids v goal aim } in
      tabled_more ids ts claims t differ (told v) i (record { winner = v.winner; goal = goal }) meaning none new e

-- one after the other
pub told_more : (ids : List ℕ) (vs : List Verdict) (k : ℕ) (d : Verdict) (new : List (Option Claim)) → k < length vs → Tabled ids (told_by (take k vs) ++ (told (get_or vs k d) ∷ [])) new → Tabled ids (told_by (take (k + 1) vs)) new
told_more ids vs k d new l t = subst (λ ts. Tabled ids ts new) (sym (map_more told vs k d l)) t

pub told_wrong : (text ids : List ℕ) (vs : List Verdict) (k : ℕ) (d : Verdict) (e : SolutionRefusal) → k < length vs → SaysOfOne text ids (told_by (take k vs)) (get_or vs k d) e → solution text ≡ Ok vs → Says text ids e
told_wrong text ids vs k d e l h said = whole e (k, get_or vs k d, slice_get-get_or vs k d l, h)
  where
    whole : (e : SolutionRefusal) → SaysOfSome text ids vs e → Says text ids e
    whole (Fault n f) h = absurd h.3
    whole (Unknown n x) h = (vs, said, h)
    whole (Twice n x) h = (vs, said, h)
    whole (Missing x) h = absurd h.3
    whole TooLong h = absurd h.3
    whole TooManyNodes h = absurd h.3
    whole (SameId x) h = absurd h.3
    whole Memory h = tt

-- all is told
module _ (text ids all : List ℕ) (collected : Collected ids (Ok all)) (vs : List Verdict) (said : solution text ≡ Ok vs) (claims : List (Option Claim)) (h : AllTold text all vs (Ok claims)) where
  tabled : Tabled ids (told_by vs) claims
  tabled = subst (λ l. Tabled l (told_by vs) claims) collected.0 h

  pub tells_words : (words : List ℕ) → Worded claims words → Tells text ids words
  tells_words words w = record { verdicts = vs; said = said; different = collected.1; answered = tabled_all ids (told_by vs) claims tabled collected.1 words w }

  -- of a node nothing is said
  module _ (w : NoWords) (i : ℕ) (wording : Wording claims (Err w)) (is : w ≡ Unclaimed i) where
    pub open_within : i < length ids
    open_within = unclaimed_within ids (told_by vs) claims tabled collected.1 w i wording is

    pub open_missing : (x : ℕ) → slice_get ids i ≡ Some x → Says text ids (Missing x)
    open_missing x at = (vs, said, i, at, unclaimed_untold ids (told_by vs) claims tabled collected.1 w i wording is x at)

pub collected_wrong : (text ids : List ℕ) (e : SolutionRefusal) → Collected ids (Err e) → Says text ids e
collected_wrong text ids e h = h text
