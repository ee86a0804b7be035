-- `gossip_calls::asking::answer`: 11, or the numbers that we want and one IHAVE more.
use Rattle.index.proofs.Flags.{not_yes, not_no}
use borrow.Author.Rules.{rules}
use Rattle.index.proofs.Kit.{arith}
use Rattle.gossip_gate.proofs.AdmittedLaws.{admitted_valid, admitted_fine, admitted_slot}
use Rattle.gossip_calls.proofs.AskLaws.{answer_not, answer_one, wanted_most}
use Rattle.gossip_calls.proofs.asking.answer.Goals as goal

pub is_answered-requires : goal.is_answered-requires
is_answered-requires c = search (admitted_valid, admitted_fine, rules)

pub returns-then-not-is_answered : goal.returns-then-not-is_answered
returns-then-not-is_answered c =
    answer_not _ _ _ _ _ _ _ _ _ _ c.is_answered.ensures (not_yes c.if-not-is_answered.true) c.ignore.ensures

pub want-count-requires : goal.want-count-requires
want-count-requires c = search (admitted_fine, rules)

pub count_ihave-requires : goal.count_ihave-requires
count_ihave-requires c = search (admitted_slot, rules)

pub finish-requires : goal.finish-requires
finish-requires c =
    record {
      size = search rules;
      few = omega arith;
      some = wanted_most c.requires _ c.want-count.ensures.1;
    }

pub returns : goal.returns
returns c =
    answer_one _ _ _ _ _ _ _ _ _ _ c.is_answered.ensures (not_no c.if-not-is_answered.false) _ _ _ c.want-count.ensures
    c.count_ihave.ensures
    c.finish.ensures
