use Rattle.layout.proofs.ViewLaws.{setup_store}
use Rattle.layout.proofs.store_setup.Goals as goal

pub returns : goal.returns
returns c = setup_store c.args.cells.now c.args.setup c.requires
