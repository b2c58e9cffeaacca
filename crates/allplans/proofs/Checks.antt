-- What the two sides' rounds make of an answer.
use Rattle.std.proofs.Common.{◌≡◌, ℕ, zero, suc, ◌+◌, ◌<◌, List, length, get_or, ap, sym, ◌∙◌, subst, arith, below_more}
use Rattle.std.specs.List.{zip, enumerate_from}
use Rattle.std.proofs.lemmas.List.{get_or-map, get_or_read, length-map}
use Rattle.std.proofs.lemmas.List.FromFn.{length-enumerate_from, get_or-enumerate_from}
use Rattle.std.proofs.lemmas.Slice.Zip.{length-zip, get_or-zip}
use Rattle.allplans.specs.declared.answer.Claim.{Claim}
use Rattle.allplans.specs.Claims.{winners, plan}
use Rattle.allplans.specs.declared.game.Place.{Place}
use Rattle.allplans.specs.Checked.{Holds, NoWrongRound, RightAnswer}

-- what holds of both sides
pub each_side : (P : ℕ → Type 0) → P 0 → P 1 → (side : ℕ) → side < 2 → P side
each_side P a b zero h = a
each_side P a b (suc zero) h = b
each_side P a b (suc (suc n)) h = absurd (omega arith)

-- the place and the claim of a turn
turn_is : (ps : List Place) (claims : List Claim) (i n : ℕ) (p : Place) (e : Claim) → i < length (enumerate_from 0 (zip ps claims)) → ◌≡◌ {A = ℕ × (Place × Claim)} (n, (p, e)) (get_or (enumerate_from 0 (zip ps claims)) i (n, (p, e))) → (i < length ps) × (i < length claims) × (p ≡ get_or ps i p) × (e ≡ get_or claims i e)
turn_is ps claims i n p e l is =
    let long = length-enumerate_from 0 (zip ps claims) in
    let h : i < length ps = omega (arith, l, long, length-zip ps claims) in
    let k : i < length claims = omega (arith, l, long, length-zip ps claims) in
    let pair : ◌≡◌ {A = Place × Claim} (p, e) (get_or ps i p, get_or claims i e) = ap (λ q. q.1) (is ∙ get_or-enumerate_from 0 (zip ps claims) i (n, (p, e)) (omega (arith, l, long))) ∙ get_or-zip ps claims i (p, e) h k in
    (h, k, ap (λ q. q.0) pair, ap (λ q. q.1) pair)

-- one place more holds
pub held_more : (ps : List Place) (claims : List Claim) (i n : ℕ) (p : Place) (e : Claim) → i < length (enumerate_from 0 (zip ps claims)) → ◌≡◌ {A = ℕ × (Place × Claim)} (n, (p, e)) (get_or (enumerate_from 0 (zip ps claims)) i (n, (p, e))) → Holds p e.goes (winners claims) e.winner → ((v : ℕ) (d : Place) → v < i → Holds (get_or ps v d) (get_or (plan claims) v 0) (winners claims) (get_or (winners claims) v 0)) → (v : ℕ) (d : Place) → v < i + 1 → Holds (get_or ps v d) (get_or (plan claims) v 0) (winners claims) (get_or (winners claims) v 0)
held_more ps claims i n p e l is held inv v d below =
    let t = turn_is ps claims i n p e l is in
    below_more (λ v. (d : Place) → Holds (get_or ps v d) (get_or (plan claims) v 0) (winners claims) (get_or (winners claims) v 0)) i
    (λ v h d. inv v d h)
    (λ d.
    let place : get_or ps i d ≡ p = sym (get_or_read ps i p t.0 t.2 d) in
    let goes : get_or (plan claims) i 0 ≡ e.goes = get_or-map (λ (q : Claim). q.goes) claims i e 0 t.1 ∙ ap (λ (q : Claim). q.goes) (sym t.3) in
    let winner : get_or (winners claims) i 0 ≡ e.winner = get_or-map (λ (q : Claim). q.winner) claims i e 0 t.1 ∙ ap (λ (q : Claim). q.winner) (sym t.3) in
    rw (place, goes, winner) held)
    v below d

pub right_answer : (ps : List Place) (claims : List Claim) → length claims ≡ length ps → ((v : ℕ) (d : Place) → v < length ps → Holds (get_or ps v d) (get_or (plan claims) v 0) (winners claims) (get_or (winners claims) v 0)) → NoWrongRound ps (winners claims) (plan claims) 0 → NoWrongRound ps (winners claims) (plan claims) 1 → RightAnswer ps (winners claims) (plan claims)
right_answer ps claims level each even odd = record {
  all_winners = length-map claims (λ (q : Claim). q.winner) ∙ level;
  all_planned = length-map claims (λ (q : Claim). q.goes) ∙ level;
  each = each;
  rounds = each_side (λ side. NoWrongRound ps (winners claims) (plan claims) side) even odd;
}

pub right_moved : (ps ps' : List Place) (claims claims' : List Claim) → ps ≡ ps' → claims ≡ claims' → RightAnswer ps (winners claims) (plan claims) → RightAnswer ps' (winners claims') (plan claims')
right_moved ps ps' claims claims' e f r = subst (λ (x : List Claim). RightAnswer ps' (winners x) (plan x)) f (subst (λ (x : List Place). RightAnswer x (winners claims) (plan claims)) e r)
