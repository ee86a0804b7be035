-- `leaving::leave`: the gate's refusals, or what `leave_from` gives.
use borrow.Author.Rules.{rules}
use Rattle.rules.specs.Step.{effect}
use Rattle.gate.proofs.CallLaws.{call_ends}
use Rattle.leaving.proofs.leave.Goals as goal

pub leave_from-requires : goal.leave_from-requires
leave_from-requires c = record { ready = search (call_ends, rules); topic = search call_ends; room = search call_ends }

pub returns-in-Err : goal.returns-in-Err
returns-in-Err c = search call_ends

pub returns-in-Ok : goal.returns-in-Ok
unfolding effect
returns-in-Ok c = search call_ends
