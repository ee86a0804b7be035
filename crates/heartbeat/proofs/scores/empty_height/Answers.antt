-- `heartbeat::scores::empty_height`: an empty slot's score, moved up.
use mathlib.Core.Path.{◌∙◌}
use Rattle.rules.proofs.HeartbeatLaws.{height_of}
use Rattle.heartbeat.proofs.scores.empty_height.Goals as goal

pub empty_score-requires : goal.empty_score-requires
empty_score-requires c = c.requires

pub offset-requires : goal.offset-requires
offset-requires c = c.empty_score.ensures.range

pub returns : goal.returns
returns c s h z = c.offset.ensures ∙ height_of _ _ _ (c.empty_score.ensures.score s h z)
