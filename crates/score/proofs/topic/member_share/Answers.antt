-- `score::topic::member_share` meets its contract. Assumes nothing.
use Rattle.score.specs.Sums.{share_of}
use Rattle.score.proofs.topic.member_share.Goals as goal

pub returns : goal.returns
unfolding share_of
returns c = (cc, record { gain = c.weighted.ensures.1; loss = c.weighted-2.ensures.1 })
