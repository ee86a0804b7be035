-- `peer_score::why_of`: what the parts tell is what the rules tell.
-- Assumes nothing.
use mathlib.Core.Path.{ap, ◌∙◌}
use Rattle.score.specs.Sums.{told_of}
use Rattle.score.proofs.InputLaws.{slot_in}
use Rattle.score.proofs.ScoreLaws.{told_is}
use Rattle.peer_score.proofs.why_of.Goals as goal

pub returns : goal.returns
returns c =
    let p = c.requires in
    c.why.ensures ∙ ap told_of c.score_parts.ensures.0 ∙ told_is _ _ (slot_in _ p.standing.router _ p.slot)
