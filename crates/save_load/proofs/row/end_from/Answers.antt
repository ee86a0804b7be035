-- `save_load::row::end_from` meets its contract. Assumes nothing.
use Rattle.save_load.proofs.StoreLaws.{end_none, end_some}
use Rattle.save_load.proofs.row.end_from.Goals as goal

pub returns-then-left-eq0 : goal.returns-then-left-eq0
returns-then-left-eq0 c = end_none _ _ c.if-left-eq0.true

pub returns : goal.returns
returns c = end_some _ _ c.if-left-eq0.false
