-- `trace_step::call`: each arm is the call of its kind.
use Rattle.trace_events.specs.Reading.{call_of}
use Rattle.trace_step.proofs.ReplayLaws.{follows_kind}
use Rattle.trace_step.proofs.call.Goals as goal

pub returns-in-3 : goal.returns-in-3
unfolding call_of
returns-in-3 c = search follows_kind

pub returns-in-4 : goal.returns-in-4
unfolding call_of
returns-in-4 c = search follows_kind

pub returns-in-5 : goal.returns-in-5
unfolding call_of
returns-in-5 c = search follows_kind

pub returns-in-6 : goal.returns-in-6
unfolding call_of
returns-in-6 c = search follows_kind

pub returns-in_default : goal.returns-in_default
returns-in_default c = c.call_peer.ensures
