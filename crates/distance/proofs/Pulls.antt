-- The loop over the places that may move to the one at the head of the queue, and the loop over the queue.
use Rattle.std.proofs.Common.{◌≡◌, ℕ, ◌+◌, ◌<◌, ◌≤◌, List, [], length, get_or, take, sym, refl, ap, ◌∙◌, subst, arith}
use Rattle.endless.specs.Graph.{sources}
use Rattle.distance.specs.Spreading.{number, Looks}
use Rattle.distance.specs.Steps.{Going, Same, Pulls, Advances, Measures}
use Rattle.distance.specs.declared.spread.Spreading.{Spreading}
use Rattle.distance.proofs.Looking.{look_all}
use Rattle.distance.proofs.Spreads.{spread_last}

pub same_then : {a b c : Spreading} → Same a b → Same b c → Same a c
same_then same then = record { graph = then.graph ∙ same.graph; side = then.side ∙ same.side; out = then.out ∙ same.out; queue = then.queue ∙ same.queue; awaited = then.awaited ∙ same.awaited }

-- ---- the places that may move to the one at the head

-- so many of them looked at: the state now
pub record Pulled (target : ℕ) (before : List ℕ) (head to next i filled : ℕ) (b : Spreading) : Type 0 where
  pub going : Going b target before head (take i (sources 0 b.graph.now to))
  pub within : filled ≤ b.tail
  pub head_is : get_or b.queue.now head 0 ≡ to
  pub next_is : next ≡ number b.out.now to + 1

-- from every state at the start
pub record Pulling (a : Spreading) (to next i : ℕ) (b : Spreading) : Type 0 where
  pub same : Same a b
  pub pulled : (target : ℕ) (before : List ℕ) (head : ℕ) → head < a.tail → get_or a.queue.now head 0 ≡ to → Going a target before head [] → Pulled target before head to next i a.tail b

-- what is looked at next
pub pulled_looks : {target : ℕ} {before : List ℕ} {head to next i filled : ℕ} {b : Spreading} {r : List ℕ} → r ≡ sources 0 b.graph.now to → head < filled → i < length r → Pulled target before head to next i filled b → Looks b.graph.now to next (get_or r i 0) head i b.queue.now b.out.now b.tail
pulled_looks {i = i} is h l p = record {
  within = omega (arith, p.within);
  head_is = p.head_is;
  next_is = p.next_is;
  inside = omega (arith, ap length is);
  from_is = ap (λ (xs : List ℕ). get_or xs i 0) (sym is);
}

module _ {a b : Spreading} {to next i : ℕ} (k : Pulling a to next i b) {r : List ℕ} (is : r ≡ sources 0 a.graph.now to) where
  -- they are those of the state now
  pub are_now : r ≡ sources 0 b.graph.now to
  are_now = rw k.same.graph is

  pub pulling_more : {c : Spreading} → i < length r → Same b c → Pulls b (get_or r i 0) to next c → Pulling a to next (i + 1) c
  pulling_more {c} l then pulls = record {
    same = same_then k.same then;
    pulled = λ target before head h e st.
        let p = k.pulled target before head h e st in
        let u = pulls target before head i (pulled_looks are_now h l p) p.going in
        record {
          going = u.0;
          within = omega (arith, p.within, u.1.grows);
          head_is = u.1.front head (omega (arith, p.within)) ∙ p.head_is;
          next_is = p.next_is ∙ ap (λ (n : ℕ). n + 1) (sym (subst (λ (n : ℕ). number c.out.now n ≡ number b.out.now n) p.head_is (u.1.numbers head (omega (arith, p.within)))));
        };
  }

  pub pulling_all : length r ≤ i → Advances a to b
  pulling_all done target before head h e st =
      let p = k.pulled target before head h e st in
      look_all b.playable (omega (arith, ap length are_now)) (omega (arith, p.within)) p.head_is p.going

-- ---- the queue

-- gone through up to `head`
pub record Advancing (a : Spreading) (head : ℕ) (b : Spreading) : Type 0 where
  pub same : Same a b
  pub going : (target : ℕ) (before : List ℕ) → Going a target before 0 [] → Going b target before head []

module _ {a b : Spreading} {head : ℕ} (k : Advancing a head b) where
  -- no more places come into the queue than there are
  pub advancing_most : (target : ℕ) (before : List ℕ) → Going a target before 0 [] → b.tail ≤ length b.graph.now
  advancing_most target before st = (k.going target before st).most

  pub advancing_more : {c : Spreading} → head < b.tail → Same b c → Advances b (get_or b.queue.now head 0) c → Advancing a (head + 1) c
  advancing_more h then advances = record { same = same_then k.same then; going = λ target before st. advances target before head h refl (k.going target before st) }

  pub advancing_all : b.tail ≤ head → Measures a b
  advancing_all done target before st =
      let end = k.going target before st in
      rw (← k.same.graph, ← k.same.side) (spread_last b.playable end (omega arith), end.behind)
