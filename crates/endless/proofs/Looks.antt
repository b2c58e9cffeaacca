-- A plan at each place of a set: it stays there, or what is wrong.
use Rattle.std.proofs.Common.{◌≡◌, ℕ, zero, suc, ◌+◌, ◌*◌, ◌<◌, Bool, true, false, nat_eq, List, [], ◌∷◌, Option, Result, Some, None, Ok, Err, length, get_or, sym, refl, ap, ◌∙◌, subst, arith}
use Rattle.std.specs.Fn.{Called}
use Rattle.std.specs.Iterator.{YieldsThen}
use Rattle.std.specs.Bool.{MatchBool}
use Rattle.std.specs.Option.{MatchOption}
use Rattle.std.specs.Result.{MatchResult, IsErr, IsErrAnd}
use Rattle.std.specs.List.{AllWithin, HoldsAt, FoldsTo}
use Rattle.std.proofs.lemmas.Grind.{get_or_default_zero}
use Rattle.std.proofs.lemmas.Iterator.{YieldsList}
use Rattle.std.proofs.lemmas.Iterator.Consumers.{YieldsList-turn, YieldsList-end}
use Rattle.std.proofs.lemmas.List.{map-id}
use denote.Param.Members.{Mut}
use Rattle.std.proofs.lemmas.Bool.{both_ways, eqb-true}
use Rattle.endless.specs.Games.{Game, whose, Among, May}
use Rattle.endless.specs.Says.{goes}
use Rattle.endless.specs.Sets.{Set, In, Out}
use Rattle.endless.specs.Graph.{moves}
use Rattle.endless.specs.Parts.{Told}
use Rattle.endless.specs.Flaws.{StaysAt}
use Rattle.endless.proofs.Tests.{T_true, true_T}
use Rattle.endless.proofs.Among.{among_at, at_among}
use Rattle.endless.proofs.Picking.{told_in}
use Rattle.endless.proofs.Working.{goes_at}

-- where an item of a list is m, m is among them
pub found_among : {m : ℕ} {l : List ℕ} → (k : ℕ) × (k < length l) × HoldsAt (λ y. nat_eq y m ≡ true) l k → Among m l
found_among {m} {l} t = subst (λ (y : ℕ). Among y l) (eqb-true _ _ (t.2 0)) (at_among l t.0 t.1)

-- where none of a list's items is m, it is not among them
pub not_among : (m : ℕ) (l : List ℕ) → ((k : ℕ) → k < length l → get_or l k 0 ≡ m → ⊥) → Among m l → ⊥
not_among m l none a = let t = among_at m l a in none t.0 t.1 t.2

-- the answer's move is one of the list, and so a move
pub plan_may : (g : Game) (n : ℕ) (l o : List ℕ) → l ≡ moves g n → Among (get_or o (2 * n + 1) 0) l → May g n (goes o n)
plan_may g n l o e a = subst (λ (m : ℕ). May g n m) (sym (goes_at o n)) (subst (λ (x : List ℕ). Among (get_or o (2 * n + 1) 0) x) e a)

pub may_plan : (g : Game) (n : ℕ) (l o : List ℕ) → l ≡ moves g n → May g n (goes o n) → Among (get_or o (2 * n + 1) 0) l
may_plan g n l o e a = subst (λ (x : List ℕ). Among (get_or o (2 * n + 1) 0) x) (sym e) (subst (λ (m : ℕ). May g n m) (goes_at o n) a)

pub goes_in : (X : Set) (o : List ℕ) (n : ℕ) → X (get_or o (2 * n + 1) 0) ≡ true → In X (goes o n)
goes_in X o n e = true_T _ (ap X (goes_at o n) ∙ e)

pub goes_out : (X : Set) (o : List ℕ) (n : ℕ) → X (get_or o (2 * n + 1) 0) ≡ false → Out X (goes o n)
goes_out X o n e x = both_ways (X (get_or o (2 * n + 1) 0)) e (ap X (sym (goes_at o n)) ∙ T_true _ x)

pub stays_own : {g : Game} {U X : Set} {w : ℕ} {plan : ℕ → ℕ} {n : ℕ} → whose g n ≡ w → May g n (plan n) → In X (plan n) → StaysAt g U X w plan n
stays_own e a x = record { may = λ q. (a, x); held = λ m d b u. absurd (d e) }

pub stays_other : {g : Game} {U X : Set} {w : ℕ} {plan : ℕ → ℕ} {n : ℕ} (l : List ℕ) → l ≡ moves g n → (whose g n ≡ w → ⊥) → ((k : ℕ) → k < length l → U (get_or l k 0) ≡ true → X (get_or l k 0) ≡ true) → StaysAt g U X w plan n
stays_other {g} {U} {X} {w} {plan} {n} l e d all = record {
  may = λ q. absurd (d q);
  held = λ m q a u.
      let t = among_at m l (subst (λ (y : List ℕ). Among m y) (sym e) a) in
      true_T _ (ap X (sym t.2) ∙ all t.0 t.1 (ap U t.2 ∙ T_true _ u));
}

-- what is so of each item of a list of a set's members is so of the members
module _ (X : Set) (l : List ℕ) (told : Told l X) where
  each_told : (No : ℕ → Type 0) → AllWithin No l 0 (length l) → (n : ℕ) → In X n → No n
  each_told No all n x = let t = (told n).0 x in subst No t.2 (all t.0 0 (omega arith) t.1)

  -- where none is found
  pub none_told : (Some_one : Type 0) (No : ℕ → Type 0) (r : Bool) → MatchBool r Some_one (AllWithin No l 0 (length l)) → r ≡ false → (n : ℕ) → In X n → No n
  none_told Some_one No true some e = absurd (both_ways true e refl)
  none_told Some_one No false all e = each_told No all

  -- the first that is found is a member
  pub first_told : (Yes No : ℕ → Type 0) (r : Option ℕ) → MatchOption r (AllWithin No l 0 (length l)) (λ x. Yes x × (i : ℕ) × (i < length l) × HoldsAt (λ y. y ≡ x) l i × AllWithin No l 0 i) → MatchOption r ((n : ℕ) → In X n → No n) (In X)
  first_told Yes No None all = each_told No all
  first_told Yes No (Some x) t = subst (In X) (t.3 0) (told_in l X told t.1 t.2)

-- places are tried one after another, by calls that leave the closure, up to one at which something is wrong
module _ {F W : Type 0} (g : Mut F (ℕ × Unit {0}) (Result (Unit {0}) W)) (f : F) (X : Set) (Good : ℕ → Type 0) (Bad : W → Type 0) where
  abbrev Goes : F → ℕ → F → Type 0
  Goes p x q = (v : Result (Unit {0}) W) × Called g p (x, tt) v q × (v ≡ Ok tt)

  abbrev Answers : Type 0
  Answers = (x : ℕ) (v : Result (Unit {0}) W) (h : F) → Called g f (x, tt) v h → (h ≡ f) × (In X x → MatchResult v (λ _. Good x) Bad)

  tried : Answers → (xs : List ℕ) (p q : F) → p ≡ f → FoldsTo Goes p xs q → (q ≡ f) × ((k : ℕ) → k < length xs → In X (get_or xs k 0) → Good (get_or xs k 0))
  tried answers [] p q e folds = (sym folds ∙ e, λ k h. absurd (omega arith))
  tried answers (x ∷ xs) p q e (j, (v, called, on), folds) =
      let t = answers x v j (subst (λ z. Called g z (x, tt) v j) e called) in
      let more = tried answers xs j q t.0 folds in
      (more.0, each (λ i. subst (λ r. MatchResult r (λ _. Good x) Bad) on (t.1 i)) more.1)
    where
      each : (In X x → Good x) → ((k : ℕ) → k < length xs → In X (get_or xs k 0) → Good (get_or xs k 0)) → (k : ℕ) → k < length (x ∷ xs) → In X (get_or (x ∷ xs) k 0) → Good (get_or (x ∷ xs) k 0)
      each first later zero h = first
      each first later (suc k) h = later k (omega arith)

  pub tried_all : {S E : Type 0} {steps : S → Option ℕ → S → Type 0} {start : S} {r : Result (Unit {0}) W} {all : List ℕ} (flaw : E → W) (last : S)
      → (xs : List ℕ) × (o : Option ℕ) × (f' : F) × YieldsThen steps start xs o last × FoldsTo Goes f xs f'
      × MatchOption o (r ≡ Ok tt) (λ x. (v : Result (Unit {0}) W) × (h : F) × (e : E) × Called g f' (x, tt) v h × (v ≡ Err (flaw e)) × (IsErr r × IsErrAnd r (λ w. w ≡ flaw e)))
      → YieldsList steps (λ x. x) start all → Told all X → Answers → MatchResult r (λ _. (n : ℕ) → In X n → Good n) Bad
  tried_all {all = all} flaw last (xs, None, f', (t, yields, step), folds, on) road told answers =
      let end = YieldsList-end road xs t yields None last refl step in
      let are : xs ≡ all = sym (map-id xs) ∙ end.0 in
      rw on (λ n x. let j = (told n).0 x in
      subst (λ m. In X m → Good m) (ap (λ l. get_or l j.0 0) are ∙ j.2) ((tried answers xs f f' refl folds).1 j.0 (omega (arith, end.1, j.1))) x)
  tried_all {r = Ok w} flaw last (xs, Some x, f', yields, folds, (v, h, e, called, off, made)) road told answers = absurd made.1
  tried_all {r = Err w} {all = all} flaw last (xs, Some x, f', (t, yields, step), folds, (v, h, e, called, off, made)) road told answers =
      let turn = YieldsList-turn road xs t yields (Some x) last x refl step in
      let same : get_or all (length xs) 0 ≡ x = omega (arith, turn.1, get_or_default_zero all (length xs) x turn.0) in
      let seen = (answers x v h (subst (λ z. Called g z (x, tt) v h) (tried answers xs f f' refl folds).0 called)).1 (subst (λ n. In X n) same (told_in all X told (length xs) turn.0)) in
      subst Bad (sym made.1) (subst (λ u. MatchResult u (λ _. Good x) Bad) off seen)
