use Rattle.layout.proofs.ViewLaws.{joined_store}
use Rattle.layout.proofs.store_joined.Goals as goal

pub returns : goal.returns
returns c =
    joined_store c.args.cells.now c.args.t c.args.b c.requires.0 c.requires.1
