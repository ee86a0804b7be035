use Rattle.columns.proofs.WithinLaws.{lanes_room_lem}
use Rattle.columns.proofs.lanes_room.Goals as goal

pub returns : goal.returns
returns c =
    lanes_room_lem _ _ _ _ _ _ c.room.ensures.0 c.room-2.ensures.0 c.room-3.ensures.0
