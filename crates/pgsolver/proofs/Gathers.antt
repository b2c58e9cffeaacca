-- Nodes are read one after the other.
use Rattle.std.proofs.Common.{◌≡◌, ℕ, zero, suc, ◌+◌, ◌<◌, ◌≤◌, cond, ltb, List, [], ◌∷◌, ◌++◌, length, Ok, Err, Result, sym, refl, ap, ◌∙◌, arith}
use Rattle.std.proofs.lemmas.List.{length-append, flat_map_more}
use Rattle.std.proofs.lemmas.Bool.{cond-true, cond-false, lt-ltb, le-ltb}
use Rattle.pgsolver.specs.declared.refusal.Fault.TheVariants.{TooManyNodes}
use Rattle.pgsolver.specs.declared.refusal.Slip.{Slip}
use Rattle.pgsolver.specs.declared.refusal.Stop.{Stop}
use Rattle.pgsolver.specs.declared.refusal.Stop.TheVariants.{At, Memory}
use Rattle.pgsolver.specs.Read.{Stops}
use Rattle.pgsolver.specs.declared.node.Head.{Head}
use Rattle.pgsolver.specs.Form.{skip, slip, and_then, head, goals, tail, name, Entry, node, all_goes, nodes_on, nodes_in, nodes}
use Rattle.pgsolver.proofs.Fines.{node_goes}
use Rattle.pgsolver.proofs.Lengths.{skip_le, node_less}

-- the nodes that are read, how many successors they use, and what is left of the text
pub record LeftNodes (text : List ℕ) (read : List Entry) (used : ℕ) (rest : List ℕ) : Type 0 where
  pub fuel : ℕ
  pub enough : length rest < fuel
  pub few : used ≤ 64000
  pub counted : used ≡ length (all_goes read)
  pub same : nodes_in fuel read rest ≡ nodes text

pub nodes_first : (text : List ℕ) (read : List Entry) → read ≡ [] → LeftNodes text read 0 text
unfolding nodes
nodes_first text read e = record {
  fuel = suc (length text);
  enough = omega arith;
  few = omega arith;
  counted = sym (ap (λ l. length (all_goes l)) e);
  same = ap (λ l. nodes_in (suc (length text)) l text) e;
}

on_none : (more : List ℕ → Result (List Entry) Slip) (acc : List Entry) (bs : List ℕ) → length bs ≡ 0 → nodes_on more acc bs ≡ Ok acc
on_none more acc [] h = refl
on_none more acc (b ∷ bs) h = absurd (omega arith)

on_some : (more : List ℕ → Result (List Entry) Slip) (acc : List Entry) (bs : List ℕ) → (length bs ≡ 0 → ⊥) → nodes_on more acc bs ≡ more bs
on_some more acc [] h = absurd (h refl)
on_some more acc (b ∷ bs) h = refl

goes_push : (es : List Entry) (e : Entry) → length (all_goes (es ++ (e ∷ []))) ≡ length (all_goes es) + length e.goes
goes_push es e = ap length (sym (flat_map_more (λ e. e.goes) [] es e)) ∙ length-append (all_goes es) e.goes

module _ (text : List ℕ) (read : List Entry) (used : ℕ) (rest : List ℕ) (s : LeftNodes text read used rest) (here : List ℕ) (at : here ≡ skip rest) where
  abbrev Spent : Type 0
  Spent = (m : ℕ) × (s.fuel ≡ suc m)

  spend : Spent
  spend = from s.fuel refl
    where
      from : (m : ℕ) → s.fuel ≡ m → Spent
      from zero e = absurd (omega (arith, s.enough))
      from (suc m) e = (m, e)

  abbrev onward : ℕ → List ℕ → Result (List Entry) Slip
  onward used here = cond (ltb (length read) 16384) (and_then (node used here) (λ p. nodes_in spend.0 (read ++ (p.0 ∷ [])) p.1)) (Err (slip TooManyNodes here))

  opened : nodes text ≡ nodes_on (onward used) read here
  unfolding nodes_in
  opened = sym s.same ∙ ap (λ m. nodes_in m read rest) spend.1 ∙ ap (nodes_on (onward (length (all_goes read))) read) (sym at) ∙ ap (λ u. nodes_on (onward u) read here) (sym s.counted)

  pub nodes_all : length here ≡ 0 → nodes text ≡ Ok read
  nodes_all h = opened ∙ on_none (onward used) read here h

  module _ (some : length here ≡ 0 → ⊥) where
    pub nodes_many : 16384 ≤ length read → nodes text ≡ Err (slip TooManyNodes here)
    nodes_many l = opened ∙ on_some (onward used) read here some ∙ cond-false _ _ _ (le-ltb (length read) 16384 l)

    module _ (few : length read < 16384) where
      going : nodes text ≡ and_then (node used here) (λ p. nodes_in spend.0 (read ++ (p.0 ∷ [])) p.1)
      going = opened ∙ on_some (onward used) read here some ∙ cond-true _ _ _ (lt-ltb (length read) 16384 few)

      pub nodes_slip : (e : Slip) → node used here ≡ Err e → nodes text ≡ Err e
      nodes_slip e h = going ∙ ap (λ x. and_then x (λ p. nodes_in spend.0 (read ++ (p.0 ∷ [])) p.1)) h

      module _ (e : Entry) (next : List ℕ) (h : node used here ≡ Ok (e, next)) where
        pub nodes_less : length next < length rest
        nodes_less = omega (arith, node_less used here e next h, ap length at, skip_le rest)

        pub nodes_more : (longer : List Entry) → longer ≡ read ++ (e ∷ []) → LeftNodes text longer (used + length e.goes) next
        nodes_more longer more = record {
          fuel = spend.0;
          enough = omega (arith, nodes_less, s.enough, spend.1);
          few = (node_goes used here e next h).1;
          counted = omega (arith, ap (λ l. length (all_goes l)) more, goes_push read e, s.counted);
          same = ap (λ l. nodes_in spend.0 l next) more ∙ sym (going ∙ ap (λ x. and_then x (λ p. nodes_in spend.0 (read ++ (p.0 ∷ [])) p.1)) h);
        }

-- where one part stops, so does the whole
pub stops_on : {A B : Type 0} (x : Result A Slip) (y : Result B Slip) → ((e : Slip) → x ≡ Err e → y ≡ Err e) → (t : Stop) → Stops x t → Stops y t
stops_on x y f (At s) h = f s h
stops_on x y f Memory h = tt

pub node_is : (used : ℕ) (bs : List ℕ) (h : Head) (one own two name three : List ℕ) → head bs ≡ Ok (h, one) → goals used one ≡ Ok (own, two) → tail two ≡ Ok (name, three) → node used bs ≡ Ok (record { first = h; left = length bs; goes = own; named = name }, three)
node_is used bs h one own two name three a b c =
    ap (λ x. and_then x (λ h. and_then (goals used h.1) (λ g. and_then (tail g.1) (λ t. Ok (record { first = h.0; left = length bs; goes = g.0; named = t.0 }, t.1))))) a
    ∙ ap (λ x. and_then x (λ g. and_then (tail g.1) (λ t. Ok (record { first = h; left = length bs; goes = g.0; named = t.0 }, t.1)))) b
    ∙ ap (λ x. and_then x (λ t. Ok (record { first = h; left = length bs; goes = own; named = t.0 }, t.1))) c
