use Rattle.rows.proofs.ViewLaws.{clock_store}
use Rattle.rows.proofs.store_clock.Goals as goal

pub returns : goal.returns
returns c = clock_store c.args.cells.now c.requires c.args.time
