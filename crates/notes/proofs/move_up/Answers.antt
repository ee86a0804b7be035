use Rattle.notes.proofs.MoveLaws.{moved_run}
use Rattle.notes.proofs.move_up.Goals as goal

pub returns : goal.returns
returns c = moved_run c.args.cells.now _ c.args.at c.args.end c.args.w c.requires.0 c.copy_within.ensures
