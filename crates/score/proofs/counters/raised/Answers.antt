-- `score::counters::raised` meets its contract. Assumes nothing.
use Rattle.score.proofs.counters.raised.Goals as goal

pub returns : goal.returns
returns c = c.sum_to.ensures
