use Rattle.columns.proofs.WithinLaws.{halves_room_lem}
use Rattle.columns.proofs.halves_room.Goals as goal

pub returns : goal.returns
returns c = halves_room_lem _ _ _ _ c.room.ensures.0 c.room-2.ensures.0
