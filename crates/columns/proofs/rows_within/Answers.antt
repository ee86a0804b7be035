-- `columns::rows_within`: no cell is above the union; else the free bits tell of the sums. Assumes nothing.
use Rattle.columns.proofs.WithinLaws.{below_top, run_limit, rows_below}
use Rattle.columns.proofs.rows_within.Goals as goal

pub returns-then-above-limit : goal.returns-then-above-limit
returns-then-above-limit c = λ t. rows_below _ _ _ _ _ c.above.ensures c.if-above-limit.true

pub returns : goal.returns
returns c = λ t. run_limit _ _ _ _ (below_top _ _ _ _ _ _ c.gathered.ensures c.room.ensures.0 t)
