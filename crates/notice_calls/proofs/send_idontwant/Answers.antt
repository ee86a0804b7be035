-- `notice_calls::send_idontwant`: the refusals of the first tests, or what `ask_from` gives.
use borrow.Author.Rules.{rules}
use Rattle.gossip.specs.Step.{new_effect}
use Rattle.gossip_gate.proofs.CallLaws.{call_refused, call_gives}
use Rattle.notice_calls.proofs.NoticeLaws.{topics_senders, topic_lent}
use Rattle.notice_calls.proofs.send_idontwant.Goals as goal

pub returns-then-gate-ne0 : goal.returns-then-gate-ne0
returns-then-gate-ne0 c = search (call_refused, topics_senders, c.if-gate-ne0.true)

pub ask_from-requires : goal.ask_from-requires
ask_from-requires c =
    topic_lent _ _ _ _ _ _ _ _ _ c.admit-gate.ensures c.if-gate-ne0.false c.time_ok.ensures c.topic_ok.ensures
    (search rules)
    (search rules)

pub returns : goal.returns
unfolding new_effect
returns c = search (call_gives, topics_senders)
