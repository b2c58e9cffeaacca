use Rattle.endless.specs.Says.{goes}
use Rattle.moves.specs.Led.{leads}
use Rattle.moves.proofs.Leading.{Leading}
use Rattle.moves.proofs.led.lead.Given as goal

abbrev pub invariant-loop-place : goal.invariant-loop-place
invariant-loop-place l = Leading l.solved.places.now (leads l.solved.places.now l.solved.answer.now) (goes l.solved.answer.now) l.place l.at l.made
