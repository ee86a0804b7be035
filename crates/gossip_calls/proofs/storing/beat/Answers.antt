-- `gossip_calls::storing::beat`: the refusals of the first tests, or what `beat_from` leaves.
use borrow.Author.Rules.{rules}
use Rattle.gossip.specs.Step.{new_effect}
use Rattle.gossip_gate.proofs.GateLaws.{gate_admitted}
use Rattle.gossip_gate.proofs.CallLaws.{call_refused, call_quiet}
use Rattle.gossip_calls.proofs.StoreLaws.{time_alone}
use Rattle.gossip_calls.proofs.storing.beat.Goals as goal

pub returns-then-gate-ne0 : goal.returns-then-gate-ne0
returns-then-gate-ne0 c = search (call_refused, time_alone, c.if-gate-ne0.true)

pub beat_from-requires : goal.beat_from-requires
beat_from-requires c =
    gate_admitted _ _ _ _ _ _ _ (time_alone _ _ _ _ _ _ c.admit-gate.ensures) c.if-gate-ne0.false c.time_ok.ensures
    (search rules)
    (search rules)

pub returns : goal.returns
unfolding new_effect
returns c = search (call_quiet, time_alone)
