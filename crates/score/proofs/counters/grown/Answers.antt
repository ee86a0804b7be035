-- `score::counters::grown` meets its contract. Assumes nothing.
use Rattle.score.specs.Counters.{grown_of}
use Rattle.score.proofs.counters.grown.Goals as goal

pub returns : goal.returns
unfolding grown_of
returns c = cc
