-- What one line more tells.
use Rattle.std.proofs.Common.{◌≡◌, ℕ, ◌+◌, ◌<◌, ◌≤◌, false, true, List, ◌∷◌, [], ◌++◌, length, take, get_or, set, slice_get, is_none, string_bytes, Some, None, Ok, Err, Option, String, sym, refl, ap, ◌∙◌, subst, ⊎_elim, arith}
use Rattle.std.specs.Option.{option_map, unwrap_or}
use Rattle.std.specs.declared.alloc.Global.{Global}
use Rattle.std.proofs.lemmas.List.{take_more, take_all, flat_map_more}
use Rattle.std.proofs.lemmas.Bool.{cases_lt}
use Rattle.claims.specs.declared.Claim.{Claim}
use Rattle.claims.specs.declared.NoWords.{NoWords}
use Rattle.claims.specs.declared.NoWords.TheVariants.{Unclaimed}
use Rattle.claims.specs.Answered.{Told, ToldOf, Differ, Goes}
use Rattle.claims.specs.Tables.{Worded, Wording, Meant, Tabled}
use Rattle.claims.proofs.Tabled.{tabled_again, tabled_more, tabled_all, unclaimed_within, unclaimed_untold}
use Rattle.drawing.specs.declared.answer_refusal.AnswerRefusal.{AnswerRefusal}
use Rattle.drawing.specs.declared.answer_refusal.AnswerRefusal.TheVariants.{Fault, Unknown, Twice, Missing, TooLong, TooManyPlaces, SameName, Memory}
use Rattle.drawing.specs.declared.told.Told as rust
use Rattle.drawing.specs.Lexed.{meant}
use Rattle.drawing.specs.Heard.{told_by}
use Rattle.drawing.specs.Telling.{Said, tells, said, told_in, told_on}
use Rattle.drawing.specs.Answering.{Good, Tells, SaysOfLine, SaysOfSome, Says, Collected, Aimed, LineTold, AllTold}
use Rattle.drawing.specs.Reading.{lines}
use Rattle.drawing.proofs.Lines.{Turn}

aim_goes : (n : ℕ) (names : List (List ℕ)) (x : Option (List ℕ)) (goal : Option ℕ) → Aimed n names x (Ok goal) → Goes names x (unwrap_or goal 4294967295)
aim_goes n names x None h = subst (λ x. Goes names x 4294967295) (sym h) refl
aim_goes n names x (Some i) h = subst (λ x. Goes names x i) (sym h.1) h.2

module _ (n : ℕ) (names : List (List ℕ)) (s : Said) (d : rust.Told) (is : s ≡ tells (told_by d)) where
  module _ (claims : List (Option Claim)) (differ : Differ names) (i : ℕ) (at : slice_get names i ≡ Some (meant d.name)) where
    pub tell_again : (y : String Global) → string_bytes y ≡ meant d.name → is_none (get_or claims i None) ≡ false → (ts : List (Told (List ℕ))) → Tabled names ts claims → SaysOfLine n names ts s (Twice n y)
    tell_again y e some ts t = (refl, told_by d, is, sym e, subst (ToldOf ts) (sym e) (tabled_again names ts claims t differ i (meant d.name) at some))

    pub tell_more : (goal : Option ℕ) → Aimed n names (option_map meant d.goal) (Ok goal) → is_none (get_or claims i None) ≡ true → (new : List (Option Claim)) → new ≡ set claims i (Some (record { winner = d.side; goal = goal })) → (ts : List (Told (List ℕ))) → Tabled names ts claims → LineTold n names ts s new (Ok tt)
    tell_more goal aim none new e ts t =
        let meaning : Meant names i (record { winner = d.side; goal = goal }) (told_by d) = record { place = at; side = refl; goes = aim_goes n names (option_map meant d.goal) goal aim } in
        subst (λ s. LineTold n names ts s new (Ok tt)) (sym is) (tt, tabled_more names ts claims t differ (told_by d) i (record { winner = d.side; goal = goal }) meaning none new e)

-- what is told on the first k lines
pub record ToldTo (names ls : List (List ℕ)) (k : ℕ) (claims : List (Option Claim)) : Type 0 where
  pub good : (j : ℕ) → j < k → Good (said (get_or ls j []))
  pub tabled : Tabled names (told_on (take k ls)) claims

pub told_all : (names ls : List (List ℕ)) (k : ℕ) (claims : List (Option Claim)) → ToldTo names ls k claims → length ls ≤ k → ((j : ℕ) → j < length ls → Good (said (get_or ls j []))) × Tabled names (told_on ls) claims
told_all names ls k claims t l = (λ j h. t.good j (omega arith), subst (λ l. Tabled names (told_on l) claims) (take_all k ls l) t.tabled)

module _ (names ls : List (List ℕ)) (k i : ℕ) (line : List ℕ) (turn : Turn ls k i line) where
  pub told_more : (claims new : List (Option Claim)) → ToldTo names ls k claims → LineTold i names (told_on (take k ls)) (said line) new (Ok tt) → (m : ℕ) → m ≡ k + 1 → ToldTo names ls m new
  told_more claims new t h m e = record {
    good = λ j l. ⊎_elim (λ b. t.good j b) (λ b. subst (λ l. Good (said l)) (turn.is ∙ ap (λ n. get_or ls n []) (omega (arith, e, l, b))) h.0) (cases_lt j k);
    tabled = subst (λ l. Tabled names l new) (sym longer) h.1;
  }
    where
      longer : told_on (take m ls) ≡ told_on (take k ls) ++ told_in (said line)
      longer = ap told_on (ap (λ n. take n ls) e ∙ take_more ls k [] turn.within ∙ ap (λ l. take k ls ++ (l ∷ [])) (sym turn.is)) ∙ sym (flat_map_more (λ l. told_in (said l)) [] (take k ls) line)

pub told_wrong : (text : List ℕ) (names : List (List ℕ)) (k i : ℕ) (line : List ℕ) → Turn (lines text) k i line → (e : AnswerRefusal) → SaysOfLine i names (told_on (take k (lines text))) (said line) e → Says text names e
told_wrong text names k i line turn e h = whole e (k, turn.within, subst (λ l. SaysOfLine (k + 1) names (told_on (take k (lines text))) (said l) e) turn.is (subst (λ n. SaysOfLine n names (told_on (take k (lines text))) (said line) e) turn.number h))
  where
    whole : (e : AnswerRefusal) → SaysOfSome text names e → Says text names e
    whole (Fault n f) h = h
    whole (Unknown n x) h = h
    whole (Twice n x) h = h
    whole (Missing x) h = absurd h.2
    whole TooLong h = absurd h.2
    whole TooManyPlaces h = absurd h.2
    whole (SameName x) h = absurd h.2
    whole Memory h = tt

-- all lines are told
module _ (text : List ℕ) (names all : List (List ℕ)) (collected : Collected names (Ok all)) (claims : List (Option Claim)) (told : AllTold all text (Ok claims)) where
  tabled : Tabled names (told_on (lines text)) claims
  tabled = subst (λ l. Tabled l (told_on (lines text)) claims) collected.0 told.1

  pub tells_words : (words : List ℕ) → Worded claims words → Tells text names words
  tells_words words w = record { different = collected.1; good = told.0; answered = tabled_all names (told_on (lines text)) claims tabled collected.1 words w }

  -- of a place nothing is claimed
  module _ (w : NoWords) (i : ℕ) (wording : Wording claims (Err w)) (is : w ≡ Unclaimed i) where
    pub open_within : i < length names
    open_within = unclaimed_within names (told_on (lines text)) claims tabled collected.1 w i wording is

    pub open_missing : (x : List ℕ) → slice_get names i ≡ Some x → (j : ℕ) × (slice_get names j ≡ Some x) × (ToldOf (told_on (lines text)) x → ⊥)
    open_missing x at = (i, at, unclaimed_untold names (told_on (lines text)) claims tabled collected.1 w i wording is x at)

pub collected_wrong : (text : List ℕ) (names : List (List ℕ)) (e : AnswerRefusal) → Collected names (Err e) → Says text names e
collected_wrong text names e h = h text
