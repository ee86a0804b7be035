-- `columns::counters_within`: the lanes tell of each topic, the run of P3b. Assumes nothing.
use Rattle.index.proofs.Index.{both}
use Rattle.columns.proofs.WithinLaws.{counters_within}
use Rattle.columns.proofs.counters_within.Goals as goal

pub returns : goal.returns
returns c =
    λ t.
    let b = both _ _ t in
    counters_within _ _ c.requires _ _ _ _ (c.counters.ensures (c.lanes.ensures b.0)) (c.rows_within.ensures b.1)
