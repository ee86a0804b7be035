use Rattle.notes.proofs.NoteLaws.{notes_parted}
use Rattle.notes.proofs.part.Goals as goal

pub returns : goal.returns
returns c = notes_parted c.args.cells.now c.args.slot c.requires.slot c.requires.size
