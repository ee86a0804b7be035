-- `topics::join`: the gate's refusals, or what `join_from` leaves.
use borrow.Author.Rules.{rules}
use Rattle.rules.specs.Step.{effect}
use Rattle.gate.proofs.CallLaws.{call_ends}
use Rattle.topics.proofs.ReplyLaws.{quiet_join}
use Rattle.topics.proofs.join.Goals as goal

pub join_from-requires : goal.join_from-requires
join_from-requires c = record { ready = search (call_ends, rules); topic = search call_ends }

pub returns-in-Err : goal.returns-in-Err
returns-in-Err c = search call_ends

pub returns-in-Ok : goal.returns-in-Ok
unfolding effect
returns-in-Ok c = search (call_ends, quiet_join)
