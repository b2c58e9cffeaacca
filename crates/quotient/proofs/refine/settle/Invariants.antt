use Rattle.std.proofs.Common.{◌-◌, length}
use Rattle.quotient.specs.Gathering.{Nothing}
use Rattle.quotient.specs.Groups.{SameGroups}
use Rattle.quotient.specs.Partitions.{SamePartition}
use Rattle.quotient.specs.Rounds.{Between}
use Rattle.quotient.proofs.refine.settle.Given as goal

abbrev pub invariant-loop-first : goal.invariant-loop-first
invariant-loop-first l = record {
  between : Between l.graph l.partition.parts.now l.partition.sizes.now l.fresh l.partition.out.now (length l.groups.set.now) l.first l.count l.listed;
  empty : Nothing l.groups.set.now;
  still : SamePartition l.initial.partition l.partition;
  same : SameGroups l.initial.groups l.groups;
}

abbrev pub decreases-loop-first : goal.decreases-loop-first
decreases-loop-first l = length l.graph - l.first
