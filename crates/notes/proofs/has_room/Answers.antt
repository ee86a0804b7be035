use Rattle.notes.proofs.NoteLaws.{room_at}
use Rattle.notes.proofs.has_room.Goals as goal

pub returns : goal.returns
returns c =
    room_at c.args.cells.now c.args.slot c.args.limit c.requires.slot
