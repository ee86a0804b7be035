-- `peer_score::score_of`: the total of the parts is worth the score.
-- Assumes nothing.
use Rattle.score.proofs.InputLaws.{slot_in}
use Rattle.score.proofs.ScoreLaws.{scores}
use Rattle.peer_score.proofs.score_of.Goals as goal

pub returns : goal.returns
returns c =
    let p = c.requires in
    scores _ _ (slot_in _ p.standing.router _ p.slot) _ _ c.score_parts.ensures.0 c.total.ensures.0
