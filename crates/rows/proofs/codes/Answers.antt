use Rattle.rows.proofs.ViewLaws.{codes_load}
use Rattle.rows.proofs.codes.Goals as goal

pub returns : goal.returns
returns c = codes_load c.args.cells.now c.requires
