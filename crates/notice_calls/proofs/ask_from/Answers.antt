-- `notice_calls::ask_from`: 3, 11, or an action for each slot that is asked.
use borrow.Author.Rules.{rules}
use Rattle.index.proofs.Kit.{arith}
use Rattle.gossip.specs.Step.{ask_reply}
use Rattle.gossip_gate.proofs.AdmittedLaws.{admitted_valid}
use Rattle.notice_calls.proofs.NoticeLaws.{sent_refused, sent_ignored, sent_told, told_most}
use Rattle.notice_calls.proofs.ask_from.Goals as goal

pub returns-then-not-sender_known : goal.returns-then-not-sender_known
unfolding ask_reply
returns-then-not-sender_known c = search sent_refused

pub returns-then-not-is_joined : goal.returns-then-not-is_joined
unfolding ask_reply
returns-then-not-is_joined c = search sent_ignored

pub asked-set-requires : goal.asked-set-requires
asked-set-requires c = search (admitted_valid, rules)

pub tell-n-requires : goal.tell-n-requires
tell-n-requires c = search (admitted_valid, rules)

pub finish-requires : goal.finish-requires
finish-requires c =
    record {
      size = search rules;
      few = told_most _ _ _ _ _ _ c.tell-n.ensures (search rules);
      some = omega arith;
    }

pub returns : goal.returns
unfolding ask_reply
returns c =
    let w = c.tell-n.ensures _ c.asked-set.ensures in
    search sent_told
