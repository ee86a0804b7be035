use Rattle.columns.proofs.WithinLaws.{lanes_test}
use Rattle.columns.proofs.lanes.Goals as goal

pub returns : goal.returns
returns c = lanes_test c.args.x
