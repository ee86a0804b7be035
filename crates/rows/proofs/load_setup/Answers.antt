use Rattle.rows.proofs.ViewLaws.{setup_load}
use Rattle.rows.proofs.load_setup.Goals as goal

pub returns : goal.returns
returns c = setup_load c.args.cells.now
