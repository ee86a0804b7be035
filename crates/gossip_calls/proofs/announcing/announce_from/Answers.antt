-- `gossip_calls::announcing::announce_from`: 7, 11, or the numbers and an action for each target that is told.
use Rattle.index.proofs.Flags.{yes, not_yes, not_no}
use borrow.Author.Rules.{rules}
use Rattle.layout.specs.View.{state_of}
use Rattle.gossip.specs.Notes.{store_in}
use Rattle.gossip.specs.Step.{announced}
use Rattle.gossip_table.specs.View.{gossip_of}
use Rattle.gossip_gate.proofs.AdmittedLaws.{admitted_valid, admitted_fine}
use Rattle.gossip_calls.proofs.AnnounceLaws.{announce_refused, announce_ignored, announce_told, announced_most, told_most}
use Rattle.gossip_calls.proofs.announcing.announce_from.Goals as goal

pub returns-then-not-is_permutation : goal.returns-then-not-is_permutation
returns-then-not-is_permutation c = announce_refused _ _ _ _ _ _ _ _ c.is_permutation.ensures (not_yes c.if-not-is_permutation.true)

pub returns-then-not-is_joined : goal.returns-then-not-is_joined
returns-then-not-is_joined c =
    announce_ignored _ _ _ _ _ _ _ _ c.is_permutation.ensures (not_no c.if-not-is_permutation.false) _ c.is_joined.ensures _ _
    (not_yes c.if-not-is_joined.true)
    c.ignore.ensures

pub announce-count-requires : goal.announce-count-requires
announce-count-requires c = search (admitted_fine, rules)

pub tell_any-told-requires : goal.tell_any-told-requires
tell_any-told-requires c = search (yes, admitted_valid, admitted_fine, rules)

pub finish-requires : goal.finish-requires
finish-requires c =
    let a = c.args in
    let g = gossip_of a.gossip.now in
    let m = c.announce-count.ensures.1 in
    record {
      size = search rules;
      few =
          told_most (state_of a.table.now) g.setup a.topic a.order.now (announced (store_in g a.topic)) _ _ _
          (yes c.is_permutation.ensures c.if-not-is_permutation.false)
          (c.tell_any-told.ensures (announced (store_in g a.topic)) m);
      some = announced_most c.requires _ m;
    }

pub returns : goal.returns
returns c =
    let a = c.args in
    let told = c.tell_any-told.ensures (announced (store_in (gossip_of a.gossip.now) a.topic)) c.announce-count.ensures.1 in
    announce_told _ _ _ _ _ _ _ _ c.is_permutation.ensures (not_no c.if-not-is_permutation.false) _
    c.is_joined.ensures
    _
    _
    (not_no c.if-not-is_joined.false)
    _
    _
    _
    _
    told
    c.announce-count.ensures
    c.finish.ensures
