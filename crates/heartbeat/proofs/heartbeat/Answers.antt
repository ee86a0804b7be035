-- `heartbeat::heartbeat`: the gate's refusals, or what `heartbeat_from` gives.
use borrow.Author.Rules.{rules}
use Rattle.rules.specs.Step.{effect}
use Rattle.gate.proofs.CallLaws.{call_ends}
use Rattle.heartbeat.proofs.ReplyLaws.{heartbeat_range, heartbeat_topic}
use Rattle.heartbeat.proofs.heartbeat.Goals as goal

pub heartbeat_from-requires : goal.heartbeat_from-requires
heartbeat_from-requires c = record { ready = search (call_ends, rules); topic = search heartbeat_topic; room = search call_ends }

pub returns-in-Err : goal.returns-in-Err
returns-in-Err c = search (call_ends, heartbeat_range)

pub returns-in-Ok : goal.returns-in-Ok
unfolding effect
returns-in-Ok c = search (call_ends, heartbeat_range)
