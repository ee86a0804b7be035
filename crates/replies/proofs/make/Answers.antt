-- `replies::make`: no row is in use.
use Rattle.replies.proofs.CallLaws.{no_rows}
use Rattle.replies.proofs.make.Goals as goal

pub returns : goal.returns
returns c = no_rows c.args.cells.now c.requires
