use Rattle.std.proofs.Common.{rules, arith}
use Rattle.endless.proofs.Checks.{given_room, given_checked}
use Rattle.endless.proofs.verdict.Checking.check_side.Goals as goal

pub invariant_of-examination-clause-room : goal.invariant_of-examination-clause-room
invariant_of-examination-clause-room c =
    let s = c.args.self.now in
    omega (arith, given_room s.graph s.answer.now c.args.winner c.len.result s.all.now c.gather_given.new.set s.tabled.are c.len.ensures.len c.gather_given.ensures (omega arith) s.tabled.many)

pub returns-clause-checked : goal.returns-clause-checked
returns-clause-checked c =
    let s = c.args.self.now in
    given_checked s.graph s.answer.now c.args.winner c.len.result s.all.now c.gather_given.new.set s.tabled.are c.len.ensures.len c.gather_given.ensures c.find_flaw.result c.map_err.result _ c.map_err.ensures.cases (λ f reason l. search rules) c.find_flaw.ensures.found
