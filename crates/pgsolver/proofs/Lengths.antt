-- What is left of a text is shorter than it.
use Rattle.std.proofs.Common.{◌≡◌, ℕ, zero, suc, ◌+◌, ◌-◌, ◌*◌, ◌<◌, ◌≤◌, Bool, true, false, cond, eqb, ltb, List, [], ◌∷◌, ◌++◌, length, drop, Some, None, Ok, Err, Option, Result, sym, refl, ap, arith, ◌⊎◌, inl, inr, ⊎_elim}
use Rattle.std.specs.Char.{is_ascii_digit}
use Rattle.std.specs.List.{prefix_len, position}
use Rattle.endless.specs.declared.side.Side.{Side}
use Rattle.pgsolver.specs.declared.refusal.Fault.{Fault}
use Rattle.pgsolver.specs.declared.refusal.Fault.TheVariants.{Large, Number, NoSuccessor, TooManyMoves}
use Rattle.pgsolver.specs.declared.refusal.Slip.{Slip}
use Rattle.pgsolver.specs.declared.node.Head.{Head}
use Rattle.pgsolver.specs.Form.{blank, skip, slip, and_then, starts, behind, digits, numeral, number, side_of, owner_on, owner_of, owner, head, goals_on, goals_in, goals, name_up_to, name_on, name, ended_on, ended, tail, Entry, node}
use Rattle.std.proofs.lemmas.Bool.{ltb-true}
use Rattle.std.proofs.lemmas.List.{length-drop}

pub skip_le : (bs : List ℕ) → length (skip bs) ≤ length bs
skip_le bs = omega (arith, length-drop (prefix_len blank bs) bs)

pub ok_is : {A E : Type 0} {x y : A} → ◌≡◌ {A = Result A E} (Ok x) (Ok y) → x ≡ y
ok_is e = cc

pub ok_not : {A E : Type 0} {x : A} {y : E} → ◌≡◌ {A = Result A E} (Err y) (Ok x) → ⊥
ok_not e = let z : ◌≡◌ {A = ℕ} 0 1 = cc in omega arith

pub digits_le : (v : ℕ) (bs : List ℕ) (n : ℕ) (r : List ℕ) → digits v bs ≡ Ok (n, r) → length r ≤ length bs
digits_le v [] n r h = let e : [] ≡ r = ap (λ p. p.1) (ok_is h) in rw (sym e) (omega arith)
digits_le v (b ∷ bs) n r h = at (λ k. digits_le (10 * v + (b - 48)) bs n r k) (is_ascii_digit b) h
  where
    fits : (digits (10 * v + (b - 48)) bs ≡ Ok (n, r) → length r ≤ length bs) → (t : Bool) → cond t (digits (10 * v + (b - 48)) bs) (Err (slip Large (b ∷ bs))) ≡ Ok (n, r) → length r ≤ suc (length bs)
    fits rec true k = omega (arith, rec k)
    fits rec false k = absurd (ok_not k)

    at : (digits (10 * v + (b - 48)) bs ≡ Ok (n, r) → length r ≤ length bs) → (t : Bool) → cond t (cond (ltb (10 * v + (b - 48)) 4294967296) (digits (10 * v + (b - 48)) bs) (Err (slip Large (b ∷ bs)))) (Ok (v, b ∷ bs)) ≡ Ok (n, r) → length r ≤ suc (length bs)
    at rec true k = fits rec (ltb (10 * v + (b - 48)) 4294967296) k
    at rec false k = let e : b ∷ bs ≡ r = ap (λ p. p.1) (ok_is k) in rw (sym e) (omega arith)

numeral_less : (f : Fault) (bs : List ℕ) (n : ℕ) (r : List ℕ) → numeral f bs ≡ Ok (n, r) → length r < length bs
numeral_less f [] n r h = absurd (ok_not h)
numeral_less f (b ∷ bs) n r h = at (is_ascii_digit b) refl h
  where
    fits : (t : Bool) → cond t (digits (10 * 0 + (b - 48)) bs) (Err (slip Large (b ∷ bs))) ≡ Ok (n, r) → length r < suc (length bs)
    fits true k = omega (arith, digits_le (10 * 0 + (b - 48)) bs n r k)
    fits false k = absurd (ok_not k)

    at : (t : Bool) → is_ascii_digit b ≡ t → cond t (cond t (cond (ltb (10 * 0 + (b - 48)) 4294967296) (digits (10 * 0 + (b - 48)) bs) (Err (slip Large (b ∷ bs)))) (Ok (0, b ∷ bs))) (Err (slip f (b ∷ bs))) ≡ Ok (n, r) → length r < suc (length bs)
    at true e k = fits (ltb (10 * 0 + (b - 48)) 4294967296) k
    at false e k = absurd (ok_not k)

pub number_less : (f : Fault) (bs : List ℕ) (n : ℕ) (r : List ℕ) → number f bs ≡ Ok (n, r) → length r < length bs
number_less f bs n r h = omega (arith, numeral_less f (skip bs) n r h, skip_le bs)

starts_le : (ws bs r : List ℕ) → starts ws bs ≡ Some r → length r + length ws ≤ length bs
starts_le [] bs r h = let e : bs ≡ r = cc in rw (sym e) (omega arith)
starts_le (w ∷ ws) [] r h = absurd (let z : ◌≡◌ {A = ℕ} 0 1 = cc in omega arith)
starts_le (w ∷ ws) (b ∷ bs) r h = at (λ k. starts_le ws bs r k) (eqb b w) h
  where
    at : (starts ws bs ≡ Some r → length r + length ws ≤ length bs) → (t : Bool) → cond t (starts ws bs) None ≡ Some r → length r + suc (length ws) ≤ suc (length bs)
    at rec true k = omega (arith, rec k)
    at rec false k = absurd (let z : ◌≡◌ {A = ℕ} 0 1 = cc in omega arith)

pub behind_less : (c : ℕ) (bs r : List ℕ) → behind (c ∷ []) bs ≡ Some r → length r < length bs
behind_less c bs r h = omega (arith, starts_le (c ∷ []) (skip bs) r h, skip_le bs)

-- a value and what is left behind it, one after the other
pub then_ok : {A B : Type 0} (x : Result A Slip) (f : A → Result B Slip) (y : B) → and_then x f ≡ Ok y → (z : A) × (x ≡ Ok z) × (f z ≡ Ok y)
then_ok (Ok z) f y h = (z, refl, h)
then_ok (Err e) f y h = absurd (ok_not h)

-- one successor is read, within the bound, and then a comma and the others, or nothing
pub record Step (n used : ℕ) (acc bs own r : List ℕ) : Type 0 where
  pub goal : ℕ
  pub after : List ℕ
  pub shorter : length after < length bs
  pub few : used + length acc < 64000
  pub on : ((acc ++ (goal ∷ []) ≡ own) × (after ≡ r)) ⊎ ((rest : List ℕ) × (length rest < length after) × (goals_in n used (acc ++ (goal ∷ [])) rest ≡ Ok (own, r)))

pub goals_step : (n used : ℕ) (acc bs own r : List ℕ) → goals_in (suc n) used acc bs ≡ Ok (own, r) → Step n used acc bs own r
unfolding goals_in
goals_step n used acc bs own r h =
    let t = then_ok (number NoSuccessor bs) _ _ h in
    let p = t.0 in
    at p (number_less NoSuccessor bs p.0 p.1 t.1) (ltb (used + length acc) 64000) refl t.2
  where
    on : (p : ℕ × List ℕ) (o : Option (List ℕ)) → behind (44 ∷ []) p.1 ≡ o → goals_on (λ rest. goals_in n used (acc ++ (p.0 ∷ [])) rest) (acc ++ (p.0 ∷ [])) p.1 o ≡ Ok (own, r) → ((acc ++ (p.0 ∷ []) ≡ own) × (p.1 ≡ r)) ⊎ ((rest : List ℕ) × (length rest < length p.1) × (goals_in n used (acc ++ (p.0 ∷ [])) rest ≡ Ok (own, r)))
    on p None e k = inl (ap (λ p. p.0) (ok_is k), ap (λ p. p.1) (ok_is k))
    on p (Some x) e k = inr (x, behind_less 44 p.1 x e, k)

    at : (p : ℕ × List ℕ) → length p.1 < length bs → (t : Bool) → ltb (used + length acc) 64000 ≡ t → cond t (goals_on (λ rest. goals_in n used (acc ++ (p.0 ∷ [])) rest) (acc ++ (p.0 ∷ [])) p.1 (behind (44 ∷ []) p.1)) (Err (slip TooManyMoves p.1)) ≡ Ok (own, r) → Step n used acc bs own r
    at p l true e k = record { goal = p.0; after = p.1; shorter = l; few = ltb-true (used + length acc) 64000 e; on = on p (behind (44 ∷ []) p.1) refl k }
    at p l false e k = absurd (ok_not k)

goals_less : (n used : ℕ) (acc bs : List ℕ) (own r : List ℕ) → goals_in n used acc bs ≡ Ok (own, r) → length r ≤ length bs
unfolding goals_in
goals_less zero used acc bs own r h = let e : bs ≡ r = ap (λ p. p.1) (ok_is h) in rw (sym e) (omega arith)
goals_less (suc n) used acc bs own r h =
    let s = goals_step n used acc bs own r h in
    ⊎_elim (λ t. omega (arith, s.shorter, ap length t.1)) (λ t. omega (arith, s.shorter, t.1, goals_less n used (acc ++ (s.goal ∷ [])) t.0 own r t.2)) s.on

pub owner_less : (bs : List ℕ) (w : Side) (r : List ℕ) → owner bs ≡ Ok (w, r) → length r < length bs
owner_less bs w r e =
    let n = then_ok (number Number bs) owner_of (w, r) e in
    let m : n.0.1 ≡ r = kept n.0 (w, r) (side_of n.0.0) n.2 in
    omega (arith, number_less Number bs n.0.0 n.0.1 n.1, ap length m)
  where
    kept : (x : ℕ × List ℕ) (y : Side × List ℕ) (o : Option Side) → owner_on x.1 o ≡ Ok y → x.1 ≡ y.1
    kept x y None k = absurd (ok_not k)
    kept x y (Some w) k = ap (λ p. p.1) (ok_is k)

head_less : (bs : List ℕ) (h : Head) (r : List ℕ) → head bs ≡ Ok (h, r) → length r < length bs
head_less bs h r e =
    let i = then_ok (number Number bs) _ _ e in
    let p = then_ok (number Number i.0.1) _ _ i.2 in
    let o = then_ok (owner p.0.1) _ _ p.2 in
    let q : o.0.1 ≡ r = ap (λ p. p.1) (ok_is o.2) in
    omega (arith, number_less Number bs i.0.0 i.0.1 i.1, number_less Number i.0.1 p.0.0 p.0.1 p.1, owner_less p.0.1 o.0.0 o.0.1 o.1, ap length q)

name_le : (bs n r : List ℕ) → name bs ≡ Ok (n, r) → length r ≤ length bs
name_le bs n r h = on (behind (34 ∷ []) bs) refl h
  where
    at : (x : List ℕ) → length x < length bs → (o : Option ℕ) → name_up_to x o ≡ Ok (n, r) → length r ≤ length bs
    at x l None k = absurd (ok_not k)
    at x l (Some m) k = let q : drop (m + 1) x ≡ r = ap (λ p. p.1) (ok_is k) in omega (arith, ap length q, length-drop (m + 1) x, l)

    on : (o : Option (List ℕ)) → behind (34 ∷ []) bs ≡ o → name_on bs o ≡ Ok (n, r) → length r ≤ length bs
    on None e k = let q : bs ≡ r = ap (λ p. p.1) (ok_is k) in rw (sym q) (omega arith)
    on (Some x) e k = at x (behind_less 34 bs x e) (position (λ b. eqb b 34) x) k

ended_le : (bs r : List ℕ) → ended bs ≡ Ok r → length r ≤ length bs
ended_le bs r h = on (behind (59 ∷ []) bs) refl h
  where
    on : (o : Option (List ℕ)) → behind (59 ∷ []) bs ≡ o → ended_on (skip bs) o ≡ Ok r → length r ≤ length bs
    on None e k = absurd (ok_not k)
    on (Some x) e k = omega (arith, ap length (ok_is k), behind_less 59 bs x e)

pub tail_le : (bs n r : List ℕ) → tail bs ≡ Ok (n, r) → length r ≤ length bs
tail_le bs n r h =
    let p = then_ok (name bs) _ _ h in
    let e = then_ok (ended p.0.1) _ _ p.2 in
    let q : e.0 ≡ r = ap (λ p. p.1) (ok_is e.2) in
    omega (arith, name_le bs p.0.0 p.0.1 p.1, ended_le p.0.1 e.0 e.1, ap length q)

pub node_less : (used : ℕ) (bs : List ℕ) (e : Entry) (r : List ℕ) → node used bs ≡ Ok (e, r) → length r < length bs
unfolding goals
node_less used bs e r k =
    let h = then_ok (head bs) _ _ k in
    let g = then_ok (goals used h.0.1) _ _ h.2 in
    let t = then_ok (tail g.0.1) _ _ g.2 in
    let q : t.0.1 ≡ r = ap (λ p. p.1) (ok_is t.2) in
    omega (arith, head_less bs h.0.0 h.0.1 h.1, goals_less (suc (length h.0.1)) used [] h.0.1 g.0.0 g.0.1 g.1, tail_le g.0.1 t.0.0 t.0.1 t.1, ap length q)
