use Rattle.rows.proofs.ViewLaws.{joined_store}
use Rattle.rows.proofs.store_joined.Goals as goal

pub returns : goal.returns
returns c = joined_store c.args.cells.now c.requires.0 c.args.t c.args.b c.requires.1
