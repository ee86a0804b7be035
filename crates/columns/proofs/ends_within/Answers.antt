use Rattle.columns.proofs.WithinLaws.{ends_within}
use Rattle.columns.proofs.ends_within.Goals as goal

pub returns : goal.returns
returns c = λ t. ends_within _ _ c.requires _ (c.rows_within.ensures t)
