use Rattle.index.proofs.Kit.{refl, sym, ◌∙◌, arith}
use Rattle.records.specs.Records.{slot_count}
use Rattle.words.proofs.SlotWalk.{begun, took, ended}
use Rattle.peer_score.proofs.BucketLaws.{below_none, below_all}
use Rattle.peer_score.proofs.ConnectedLaws.{connected_on, below_next}
use Rattle.peer_score.proofs.buckets.count_groups.Goals as goal

pub load_connected-connected-requires : goal.load_connected-connected-requires
load_connected-connected-requires c = c.requires.0.size

pub loop-slot-init : goal.loop-slot-init
loop-slot-init c =
    let b = begun _ _ _ c.into_iter-slot-iterator.ensures.into_iter_gives c.of-slot-items.ensures.set_is c.of-slot-items.ensures.from_is in
    (refl, rw b.1 (below_none _ 0 _ _ _ c.requires.1))

pub note_slot-requires : goal.note_slot-requires
note_slot-requires c =
    let b = begun _ _ _ c.into_iter-slot-iterator.ensures.into_iter_gives c.of-slot-items.ensures.set_is c.of-slot-items.ensures.from_is in
    let i = c.loop-slot.invariant in
    let t = took _ _ _ _ _ (i.0 ∙ b.0) c.in-Some.is c.next.ensures.steps in
    let l = c.load_connected-connected.ensures in
    let p = c.requires.0 in
    record {
      standing = p;
      slot = t.slot_lt;
      connected = connected_on _ p.router _ l.0 l.1 _ t.slot_lt (t.next.here t.slot_lt);
      buckets = below_next _ _ _ _ p.router _ l.0 l.1 _ _ t.next i.1;
    }

pub loop-slot-preserved : goal.loop-slot-preserved
loop-slot-preserved c =
    let b = begun _ _ _ c.into_iter-slot-iterator.ensures.into_iter_gives c.of-slot-items.ensures.set_is c.of-slot-items.ensures.from_is in
    let t = took _ _ _ _ _ (c.loop-slot.invariant.0 ∙ b.0) c.in-Some.is c.next.ensures.steps in
    (t.set_is ∙ sym b.0, rw t.from_is c.note_slot.ensures)

pub returns : goal.returns
returns c =
    let b = begun _ _ _ c.into_iter-slot-iterator.ensures.into_iter_gives c.of-slot-items.ensures.set_is c.of-slot-items.ensures.from_is in
    let i = c.loop-slot.invariant in
    let n = ended _ _ _ _ (i.0 ∙ b.0) c.in-None.is c.next.ensures.steps in
    let l = c.load_connected-connected.ensures in
    below_all _ slot_count _ _ _ (omega arith) (omega arith) (below_next _ _ _ _ c.requires.0.router _ l.0 l.1 _ _ n i.1)
