-- What each node that is read has.
use Rattle.std.proofs.Common.{◌≡◌, ℕ, zero, suc, ◌+◌, ◌<◌, ◌≤◌, Bool, true, false, cond, ltb, List, [], ◌∷◌, ◌++◌, length, Ok, Err, refl, ap, subst, arith, ⊎_elim}
use Rattle.std.proofs.lemmas.List.{length_push}
use Rattle.std.proofs.lemmas.Bool.{ltb-true}
use Rattle.pgsolver.specs.declared.refusal.Fault.TheVariants.{TooManyNodes}
use Rattle.pgsolver.specs.Form.{skip, slip, and_then, head, goals_in, goals, tail, Entry, node, all_goes, nodes_on, nodes_in, nodes, header, parity_word, start_word, entries}
use Rattle.pgsolver.specs.Wrongs.{Fine, FineAll}
use Rattle.pgsolver.proofs.Lengths.{ok_is, ok_not, then_ok, Step, goals_step}

goals_more : (n used : ℕ) (acc bs own r : List ℕ) → Step n used acc bs own r → ((x : ℕ) (rest : List ℕ) → goals_in n used (acc ++ (x ∷ [])) rest ≡ Ok (own, r) → (length (acc ++ (x ∷ [])) ≤ length own) × (used + length (acc ++ (x ∷ [])) ≤ 64000 → used + length own ≤ 64000)) → (length acc < length own) × (used + length own ≤ 64000)
goals_more n used acc bs own r s rec =
    ⊎_elim
    (λ t. (omega (arith, ap length t.0, length_push acc s.goal), omega (arith, ap length t.0, length_push acc s.goal, s.few)))
    (λ t. let k = rec s.goal t.0 t.2 in (omega (arith, k.0, length_push acc s.goal), k.1 (omega (arith, s.few, length_push acc s.goal))))
    s.on

-- each successor is one more, and with those used before they stay within the bound
goals_many : (n used : ℕ) (acc bs own r : List ℕ) → goals_in n used acc bs ≡ Ok (own, r) → (length acc ≤ length own) × (used + length acc ≤ 64000 → used + length own ≤ 64000)
unfolding goals_in
goals_many zero used acc bs own r h = let e : acc ≡ own = ap (λ p. p.0) (ok_is h) in (omega (arith, ap length e), λ l. omega (arith, ap length e))
goals_many (suc n) used acc bs own r h = let t = goals_more n used acc bs own r (goals_step n used acc bs own r h) (λ x rest k. goals_many n used (acc ++ (x ∷ [])) rest own r k) in (omega (arith, t.0), λ l. t.1)

-- what a node has, and how many successors are used with it
pub node_goes : (used : ℕ) (bs : List ℕ) (e : Entry) (r : List ℕ) → node used bs ≡ Ok (e, r) → (0 < length e.goes) × (used + length e.goes ≤ 64000)
unfolding goals
node_goes used bs e r k =
    let h = then_ok (head bs) _ _ k in
    let g = then_ok (goals used h.0.1) _ _ h.2 in
    let t = then_ok (tail g.0.1) _ _ g.2 in
    let goes : g.0.0 ≡ e.goes = ap (λ p. p.0.goes) (ok_is t.2) in
    let n = length h.0.1 in
    subst (λ l. (0 < length l) × (used + length l ≤ 64000)) goes (goals_more n used [] h.0.1 g.0.0 g.0.1 (goals_step n used [] h.0.1 g.0.0 g.0.1 g.1) (λ x rest k. goals_many n used (x ∷ []) rest g.0.0 g.0.1 k))

node_fine : (used : ℕ) (bs : List ℕ) (e : Entry) (r : List ℕ) → node used bs ≡ Ok (e, r) → Fine e
node_fine used bs e r k = let t = node_goes used bs e r k in record { some = t.0; few = omega (arith, t.1) }

fine_push : (es : List Entry) (e : Entry) → FineAll es → Fine e → FineAll (es ++ (e ∷ []))
fine_push [] e a f = (f, tt)
fine_push (x ∷ es) e a f = (a.0, fine_push es e a.1 f)

abbrev Good : List Entry → Type 0
Good es = FineAll es × (length es ≤ 16384)

nodes_good : (n : ℕ) (acc : List Entry) (bs : List ℕ) (es : List Entry) → Good acc → nodes_in n acc bs ≡ Ok es → Good es
unfolding nodes_in
nodes_good zero acc bs es g h = subst Good (ok_is h) g
nodes_good (suc n) acc bs es g h = at (λ e rest f k. nodes_good n (acc ++ (e ∷ [])) rest es f k) (skip bs) h
  where
    some : ((e : Entry) (rest : List ℕ) → Good (acc ++ (e ∷ [])) → nodes_in n (acc ++ (e ∷ [])) rest ≡ Ok es → Good es) → (here : List ℕ) (t : Bool) → ltb (length acc) 16384 ≡ t → cond t (and_then (node (length (all_goes acc)) here) (λ p. nodes_in n (acc ++ (p.0 ∷ [])) p.1)) (Err (slip TooManyNodes here)) ≡ Ok es → Good es
    some rec here true s k =
        let p = then_ok (node (length (all_goes acc)) here) _ _ k in
        rec p.0.0 p.0.1 (fine_push acc p.0.0 g.0 (node_fine (length (all_goes acc)) here p.0.0 p.0.1 p.1), omega (arith, length_push acc p.0.0, ltb-true (length acc) 16384 s)) p.2
    some rec here false s k = absurd (ok_not k)

    at : ((e : Entry) (rest : List ℕ) → Good (acc ++ (e ∷ [])) → nodes_in n (acc ++ (e ∷ [])) rest ≡ Ok es → Good es) → (here : List ℕ) → nodes_on (λ here. cond (ltb (length acc) 16384) (and_then (node (length (all_goes acc)) here) (λ p. nodes_in n (acc ++ (p.0 ∷ [])) p.1)) (Err (slip TooManyNodes here))) acc here ≡ Ok es → Good es
    at rec [] k = subst Good (ok_is k) g
    at rec (b ∷ bs) k = some rec (b ∷ bs) (ltb (length acc) 16384) refl k

pub entries_good : (text : List ℕ) (es : List Entry) → entries text ≡ Ok es → FineAll es × (length es ≤ 16384)
unfolding nodes
entries_good text es h =
    let one = then_ok (header parity_word text) _ _ h in
    let two = then_ok (header start_word one.0) _ _ one.2 in
    nodes_good (suc (length two.0)) [] two.0 es (tt, omega arith) two.2
