use Rattle.columns.proofs.WithinLaws.{all_zero, no_retain}
use Rattle.columns.proofs.no_retain.Goals as goal

pub returns : goal.returns
returns c = λ t. no_retain _ _ c.requires (all_zero _ _ _ _ c.gathered.ensures t)
