-- `gossip_calls::storing::store`: the refusals of the first tests, or what `store_from` leaves.
use borrow.Author.Rules.{rules}
use Rattle.gossip.specs.Step.{new_effect}
use Rattle.gossip_gate.proofs.CallLaws.{call_refused, call_quiet}
use Rattle.gossip_calls.proofs.NumberLaws.{topic_admitted}
use Rattle.gossip_calls.proofs.StoreLaws.{quiet_store}
use Rattle.gossip_calls.proofs.storing.store.Goals as goal

pub returns-then-gate-ne0 : goal.returns-then-gate-ne0
returns-then-gate-ne0 c = search (call_refused, c.if-gate-ne0.true)

pub store_from-requires : goal.store_from-requires
store_from-requires c =
    topic_admitted _ _ _ _ _ _ _ _ c.admit-gate.ensures c.if-gate-ne0.false c.time_ok.ensures c.topic_ok.ensures
    (search rules)
    (search rules)

pub returns : goal.returns
unfolding new_effect
returns c = search (call_quiet, quiet_store)
