use Rattle.std.proofs.Common.{sym, refl, arith}
use Rattle.endless.proofs.Parts.{spread_room, spread_one}
use Rattle.endless.proofs.closed.Growing.take.Goals as goal

pub offset_bounds-self-self : goal.offset_bounds-self-self
offset_bounds-self-self c =
    let space = c.args.self.now.spacious in
    omega (arith, spread_room c.args.place space.same space.room c.requires.lists (sym c.if-not-has.ensures) (sym c.if-has.ensures))

pub bounds-self-self : goal.bounds-self-self
bounds-self-self c =
    let space = c.args.self.now.spacious in
    spread_room c.args.place space.same space.room c.requires.lists (sym c.if-not-has.ensures) (sym c.if-has.ensures)

pub overflow_add-self : goal.overflow_add-self
overflow_add-self c =
    let space = c.args.self.now.spacious in
    omega (arith, spread_room c.args.place space.same space.room c.requires.lists (sym c.if-not-has.ensures) (sym c.if-has.ensures))

pub returns-clause-grown : goal.returns-clause-grown
returns-clause-grown c =
    let space = c.args.self.now.spacious in
    let spread = spread_one c.args.place space.same space.room c.requires.lists (sym c.if-not-has.ensures) (sym c.if-has.ensures) c.insert.ensures refl in
    record { same = record { places = refl; set = refl; part = refl; queue = refl }; grows = spread.grows; more = spread.more; lists = spread.lists; front = spread.front }
