-- `heartbeat::seen::past_slack`: a difference that does not wrap in place of a sum.
-- Assumes nothing.
use Rattle.heartbeat.proofs.SeenLaws.{slack_never, slack_early, slack_is}
use Rattle.heartbeat.proofs.seen.past_slack.Goals as goal

pub returns-then-end-eq0 : goal.returns-then-end-eq0
returns-then-end-eq0 c = slack_never _ _ c.if-end-eq0.true

pub returns-then-time-lt-GRAFT_SLACK : goal.returns-then-time-lt-GRAFT_SLACK
returns-then-time-lt-GRAFT_SLACK c = slack_early _ _ c.if-end-eq0.false c.if-time-lt-GRAFT_SLACK.true

pub returns : goal.returns
returns c = slack_is _ _ c.if-end-eq0.false c.if-time-lt-GRAFT_SLACK.false
