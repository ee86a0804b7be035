-- `score::counters::decayed` meets its contract. Assumes nothing.
use Rattle.score.specs.Counters.{decayed_of}
use Rattle.score.proofs.counters.decayed.Goals as goal

pub returns : goal.returns
unfolding decayed_of
returns c = cc
