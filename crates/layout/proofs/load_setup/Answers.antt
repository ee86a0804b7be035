use Rattle.layout.proofs.ViewLaws.{setup_load}
use Rattle.layout.proofs.load_setup.Goals as goal

pub returns : goal.returns
returns c = setup_load c.args.cells.now
