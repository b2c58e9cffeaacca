-- Going through the queue.
use Rattle.std.proofs.Common.{◌≡◌, ℕ, ◌+◌, ◌<◌, ◌≤◌, ◌⊎◌, [], get_or, refl, arith}
use Rattle.endless.specs.Sets.{Set}
use Rattle.endless.specs.Sides.{number}
use Rattle.endless.specs.Bits.{members, size}
use Rattle.endless.specs.Ways.{Counted}
use Rattle.endless.specs.Pulling.{Working, Starts}
use Rattle.endless.specs.Attraction.{Same, Moves, Keeps, Looks, Brings}
use Rattle.endless.specs.declared.attractor.Attraction.{Attraction}
use Rattle.endless.proofs.Looking.{same_then, looked}
use Rattle.endless.proofs.Working.{moved_none, moved_then, kept_then, working_none, working_next, working_all}

pub record Queueing (a : Attraction) (head : ℕ) (b : Attraction) : Type 0 where
  pub order : head ≤ b.tail
  pub same : Same a b
  pub moved : Moves a b
  pub kept : Keeps a b
  pub works : (U D : Set) → Starts U D a.left.now a.queue.now a.tail → Counted a.graph.now U (members a.left.now) a.escapes.now → Working a.graph.now U (number a.side) D b.left.now b.queue.now b.via.now b.escapes.now a.tail head b.tail []

pub queueing_none : {a : Attraction} → Same a a → Queueing a 0 a
queueing_none {a} same = record {
  order = omega arith;
  same = same;
  moved = moved_none a.left.now a.queue.now a.tail;
  kept = λ n o. refl;
  works = λ U D st counted. working_none a.graph.now U (number a.side) D a.left.now a.queue.now a.via.now a.escapes.now a.tail st counted;
}

module _ {a b : Attraction} {head : ℕ} (k : Queueing a head b) where
  pub queueing_more : {c : Attraction} → head < b.tail → Same b c → Moves b c → Keeps b c → Looks b (get_or b.queue.now head 0) c → Queueing a (head + 1) c
  queueing_more {c} h then m keeps looks = record {
    order = omega (arith, m.grows);
    same = same_then a b c k.same then;
    moved = moved_then a.left.now a.queue.now a.tail b.left.now b.queue.now b.tail c.left.now c.queue.now c.tail k.moved m;
    kept = kept_then a.escapes.now b.escapes.now c.escapes.now k.moved k.kept keeps;
    works = λ U D st counted.
        let work = k.works U D st counted in
        let to = work.queued head h in
        looked a b c k.same (get_or b.queue.now head 0) looks U D a.tail (head + 1) to.0 to.1 (working_next a.graph.now U (number a.side) D b.left.now b.queue.now b.via.now b.escapes.now a.tail head b.tail h work);
  }

  pub queueing_all : (head ≡ b.tail) ⊎ (size b.left.now ≡ 0) → Brings a b
  queueing_all end U D st counted = working_all a.graph.now U (number a.side) D b.left.now b.queue.now b.via.now b.escapes.now a.tail head b.tail end b.escaping (k.works U D st counted)
