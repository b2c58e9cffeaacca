-- Going through the places that may move to one.
use Rattle.std.proofs.Common.{◌≡◌, ℕ, ◌+◌, ◌<◌, ◌≤◌, List, length, get_or, drop, ◌∙◌, subst, arith}
use Rattle.std.proofs.lemmas.List.{drop_more, drop_all}
use Rattle.endless.specs.Games.{Game, Among, May}
use Rattle.endless.specs.Sets.{Set, In, Out}
use Rattle.endless.specs.Bits.{members}
use Rattle.endless.specs.Graph.{sources}
use Rattle.endless.specs.Sides.{number}
use Rattle.endless.specs.Pulling.{Working, Pulled, Looked}
use Rattle.endless.specs.Attraction.{Same, Pulls, Moves, Looks, Keeps}
use Rattle.endless.specs.declared.attractor.Attraction.{Attraction}
use Rattle.endless.proofs.Among.{at_among}
use Rattle.endless.proofs.Sources.{preds_may}
use Rattle.endless.proofs.Working.{moved_then, pulled_moves, pulled_keeps, kept_then, working_step}

-- a list is that of the places that may move to `to`
abbrev pub Lists : Game → ℕ → List ℕ → Type 0
Lists g to items = items ≡ sources 0 g to

pub may_at : (g : Game) (to : ℕ) (items : List ℕ) → Lists g to items → (i : ℕ) → i < length items → May g (get_or items i 0) to
may_at g to items lists i l = (preds_may g to (get_or items i 0)).0 (subst (λ (x : List ℕ). Among (get_or items i 0) x) lists (at_among items i l))

-- the graph and the side of an attractor that is being made stay throughout
module _ (a b c : Attraction) (same : Same a b) where
  pub same_then : Same b c → Same a c
  same_then then = record { graph = then.graph ∙ same.graph; side = then.side ∙ same.side; left = then.left ∙ same.left; queue = then.queue ∙ same.queue; via = then.via ∙ same.via; escapes = then.escapes ∙ same.escapes; queue_long = then.queue_long ∙ same.queue_long; via_long = then.via_long ∙ same.via_long; escapes_long = then.escapes_long ∙ same.escapes_long }

  pulled : (from to : ℕ) → Pulls b from to c → Pulled a.graph.now (number a.side) from to b.tail b.left.now b.queue.now b.via.now b.escapes.now c.left.now c.queue.now c.via.now c.escapes.now c.tail
  pulled from to p = rw (← same.graph, ← same.side) p

  pub looked : (to : ℕ) → Looks b to c → Looked a.graph.now (number a.side) to b.left.now b.queue.now b.via.now b.escapes.now b.tail c.left.now c.queue.now c.via.now c.escapes.now c.tail
  looked to l = rw (← same.graph, ← same.side) l

-- i of them have been looked at
pub record Looking (a : Attraction) (to : ℕ) (items : List ℕ) (i : ℕ) (b : Attraction) : Type 0 where
  pub same : Same a b
  pub moved : Moves a b
  pub kept : Keeps a b
  pub works : (U D : Set) (targets head : ℕ) → In U to → Out (members a.left.now) to → Working a.graph.now U (number a.side) D a.left.now a.queue.now a.via.now a.escapes.now targets head a.tail (sources 0 a.graph.now to) → Working a.graph.now U (number a.side) D b.left.now b.queue.now b.via.now b.escapes.now targets head b.tail (drop i items)

module _ {a b : Attraction} {to : ℕ} {items : List ℕ} {i : ℕ} (k : Looking a to items i b) where
  pub looking_more : {c : Attraction} → Lists a.graph.now to items → i < length items → Same b c → Pulls b (get_or items i 0) to c → Looking a to items (i + 1) c
  looking_more {c} lists h then pulls =
      let g = a.graph.now in
      let may = may_at g to items lists i h in
      let p = pulled a b c k.same (get_or items i 0) to pulls in
      record {
        same = same_then a b c k.same then;
        moved = moved_then a.left.now a.queue.now a.tail b.left.now b.queue.now b.tail c.left.now c.queue.now c.tail k.moved (pulled_moves p (omega (arith, b.room)));
        kept = kept_then a.escapes.now b.escapes.now c.escapes.now k.moved k.kept (pulled_keeps p);
        works = λ U D targets head u out-to work.
            let here = subst (λ (x : List ℕ). Working g U (number a.side) D b.left.now b.queue.now b.via.now b.escapes.now targets head b.tail x) (drop_more items i 0 h) (k.works U D targets head u out-to work) in
            working_step p U D targets head (drop (i + 1) items) may u (λ x. out-to (k.moved.less to x)) (omega (arith, b.room)) (omega (arith, b.beside)) here;
      }

  pub looking_all : length items ≤ i → Looks a to b
  looking_all h U D targets head u out-to work = subst (λ (x : List ℕ). Working a.graph.now U (number a.side) D b.left.now b.queue.now b.via.now b.escapes.now targets head b.tail x) (drop_all i items h) (k.works U D targets head u out-to work)
