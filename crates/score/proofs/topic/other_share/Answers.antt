-- `score::topic::other_share` meets its contract. Assumes nothing.
use Rattle.score.proofs.ShareLaws.{share_other}
use Rattle.score.proofs.topic.other_share.Goals as goal

pub returns : goal.returns
returns c = (
  share_other _ _ _ _ _ _ _ _ c.requires.1.1 c.term-gain.ensures.0 c.term.ensures.0 c.squared.ensures.0
      c.term-2.ensures.0 c.weighted.ensures.0 c.weighted-2.ensures.0,
  record { gain = c.weighted.ensures.1; loss = c.weighted-2.ensures.1 },
)
