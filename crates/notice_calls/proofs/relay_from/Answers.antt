-- `notice_calls::relay_from`: 3, 11, or an action for each slot that the message is passed on to.
use borrow.Author.Rules.{rules}
use Rattle.index.proofs.Kit.{arith}
use Rattle.gossip.specs.Step.{relay_reply}
use Rattle.gossip_table.specs.View.{extended_of}
use Rattle.gossip_gate.proofs.AdmittedLaws.{admitted_valid, admitted_fine}
use Rattle.notice_calls.proofs.NoticeLaws.{sent_refused, sent_ignored, sent_told, told_most, relayed_are}
use Rattle.notice_calls.proofs.relay_from.Goals as goal

pub returns-then-not-sender_known : goal.returns-then-not-sender_known
unfolding relay_reply
returns-then-not-sender_known c = search sent_refused

pub returns-then-not-is_joined : goal.returns-then-not-is_joined
unfolding relay_reply
returns-then-not-is_joined c = search sent_ignored

pub relayed-all-requires : goal.relayed-all-requires
relayed-all-requires c = search (admitted_valid, rules)

pub without_holders-set-requires : goal.without_holders-set-requires
without_holders-set-requires c = search admitted_fine

pub tell-n-requires : goal.tell-n-requires
tell-n-requires c = search (admitted_valid, rules)

pub finish-requires : goal.finish-requires
finish-requires c =
    record {
      size = search rules;
      few = told_most _ _ _ _ _ _ c.tell-n.ensures (search rules);
      some = omega arith;
    }

pub returns : goal.returns
unfolding relay_reply
returns c =
    let a = c.args in
    let x = extended_of a.table.now a.gossip.now in
    let w = c.tell-n.ensures _ (relayed_are x _ _ _ _ _ c.relayed-all.ensures c.without_holders-set.ensures) in
    search sent_told
