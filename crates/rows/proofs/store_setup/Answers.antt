use Rattle.rows.proofs.ViewLaws.{setup_store}
use Rattle.rows.proofs.store_setup.Goals as goal

pub returns : goal.returns
returns c = setup_store c.args.cells.now c.requires c.args.setup
