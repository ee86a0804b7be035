use Rattle.columns.proofs.WithinLaws.{halves_test}
use Rattle.columns.proofs.halves.Goals as goal

pub returns : goal.returns
returns c = halves_test c.args.x
