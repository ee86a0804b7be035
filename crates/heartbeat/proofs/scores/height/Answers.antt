-- `heartbeat::scores::height`: the peer's score, moved up.
use mathlib.Core.Path.{◌∙◌}
use Rattle.rules.proofs.HeartbeatLaws.{height_of}
use Rattle.heartbeat.proofs.scores.height.Goals as goal

pub score_among-requires : goal.score_among-requires
score_among-requires c = c.requires

pub offset-requires : goal.offset-requires
offset-requires c = c.score_among.ensures.range

pub returns : goal.returns
returns c = c.offset.ensures ∙ height_of _ _ _ c.score_among.ensures
