use Rattle.rows.proofs.ViewLaws.{joined_load}
use Rattle.rows.proofs.load_joined.Goals as goal

pub returns : goal.returns
returns c = joined_load c.args.cells.now c.args.t c.requires.1
