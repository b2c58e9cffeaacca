use Rattle.std.proofs.Common.{refl}
use Rattle.endless.proofs.Layouts.{first_room}
use Rattle.endless.proofs.layout.Layout.solve.Goals as goal

pub level_by_parts-requires-clause-room : goal.level_by_parts-requires-clause-room
level_by_parts-requires-clause-room c =
    let r = c.requires in
    first_room c.split_at_mut-sets.result.0.now _ r.playable r.fits r.subgame r.out refl refl refl (rw (← r.levels) c.split_at_mut-sets.ensures.front_len)
