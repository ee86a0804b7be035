-- `trace_feed::feed`: the turn of the stage.
use Rattle.trace_feed.proofs.TurnLaws.{feeds_stage, feeds_over}
use Rattle.trace_feed.proofs.feed.Goals as goal

pub returns-in-Params : goal.returns-in-Params
returns-in-Params c = feeds_stage _ _ _ _ _ _ _ _ _ _ c.in-Params.is
    c.feed_front.ensures

pub returns-in-Events : goal.returns-in-Events
returns-in-Events c =
    feeds_stage _ _ _ _ _ _ _ _ _ _ c.in-Events.is
    c.feed_events.ensures

pub returns-in-Over : goal.returns-in-Over
returns-in-Over c = feeds_over _ _ _ _ _ c.in-Over.is
