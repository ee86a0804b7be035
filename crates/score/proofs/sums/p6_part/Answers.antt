-- `score::sums::p6_part` meets its contract. Assumes nothing.
use Rattle.score.proofs.sums.p6_part.Goals as goal

pub returns : goal.returns
returns c = (cc, c.crowd_part.ensures.1)
