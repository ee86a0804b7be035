use Rattle.notes.proofs.NoteLaws.{notes_cleared}
use Rattle.notes.proofs.clear.Goals as goal

pub returns : goal.returns
returns c = notes_cleared c.args.cells.now c.args.slot c.requires.slot c.requires.size
