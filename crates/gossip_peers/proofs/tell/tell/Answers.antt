use Rattle.index.proofs.Kit.{◌∙◌, arith}
use Rattle.layout.specs.View.{state_of}
use Rattle.words.specs.Words.{bits_of}
use Rattle.words.proofs.SlotWalk.{begun, took, ended}
use Rattle.gossip_peers.proofs.TellLaws.{told_few, told_none, told_more, told_skip, told_all, tells_none}
use Rattle.gossip_peers.proofs.TellLaws.{tells_size, tells_as, tells_more}
use Rattle.gossip_peers.proofs.tell.tell.Goals as goal

pub loop-slot-init : goal.loop-slot-init
loop-slot-init c =
    let a = c.args in
    let b = begun _ _ _ c.into_iter-slot-iterator.ensures.into_iter_gives c.of-slot-items.ensures.set_is c.of-slot-items.ensures.from_is in
    (b.0, rw b.1 (tells_as (told_none (state_of a.table.now) a.kind (bits_of a.set.now)) (tells_none a.actions.now)))

pub tell_slot-requires : goal.tell_slot-requires
tell_slot-requires c =
    let p = c.requires in
    let a = c.args in
    let l = c.loop-slot in
    let t = took _ _ _ _ _ l.invariant.0 c.in-Some.is c.next.ensures.steps in
    let w = l.invariant.1 in
    let f = told_few (state_of a.table.now) a.kind (bits_of a.set.now) l.slot-iterator.from in
    let z = tells_size w in
    let b = t.slot_lt in
    let n = t.next.later in
    record { slot_standing = record { standing = p.standing; slot = b }; n_in_bounds = omega (arith, p.room, w.many) }

pub overflow_add-n : goal.overflow_add-n
overflow_add-n c =
    let a = c.args in
    let l = c.loop-slot in
    let t = took _ _ _ _ _ l.invariant.0 c.in-Some.is c.next.ensures.steps in
    let w = l.invariant.1 in
    let f = told_few (state_of a.table.now) a.kind (bits_of a.set.now) l.slot-iterator.from in
    let b = t.slot_lt in
    let n = t.next.later in
    omega (arith, w.many)

pub loop-slot-preserved : goal.loop-slot-preserved
loop-slot-preserved c =
    let a = c.args in
    let l = c.loop-slot in
    let t = took _ _ _ _ _ l.invariant.0 c.in-Some.is c.next.ensures.steps in
    let st = state_of a.table.now in
    let m = bits_of a.set.now in
    let n = t.next in
    let before = tells_as (told_skip st a.kind m _ _ n.later n.none) l.invariant.1 in (
      t.set_is,
      rw t.from_is
          (tells_as (told_more st a.kind m _ (n.here t.slot_lt))
          (tells_more _ _ a.actions.now l.actions _ l.n before c.tell_slot.ensures)),
    )

pub shape_of-actions : goal.shape_of-actions
shape_of-actions c = tells_size c.loop-slot.invariant.1

pub returns : goal.returns
returns c f e =
    let a = c.args in
    let l = c.loop-slot in
    let n = ended _ _ _ _ l.invariant.0 c.in-None.is c.next.ensures.steps in
    let st = state_of a.table.now in
    let m = bits_of a.set.now in
    tells_as (told_skip st a.kind m _ _ n.later n.none ∙ told_all st a.kind m f e) l.invariant.1
