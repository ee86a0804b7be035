use Rattle.rows.proofs.ViewLaws.{code_load}
use Rattle.rows.proofs.load_code.Goals as goal

pub returns : goal.returns
returns c = code_load c.args.cells.now c.args.i c.requires.1
