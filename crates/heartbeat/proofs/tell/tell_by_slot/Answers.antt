use native.Mathlib.Omega.{arith}
use borrow.Author.Rules.{rules}
use mathlib.Core.Path.{◌≡◌}
use lib.ListN.{length}
use Rattle.words.specs.Words.{word_count}
use Rattle.words.proofs.SlotWalk.{begun, took, ended}
use Rattle.heartbeat.proofs.TellLaws.{telling_none, telling_room, telling_more, telling_done}
use Rattle.heartbeat.proofs.tell.tell_by_slot.Goals as goal

pub loop-slot-init : goal.loop-slot-init
loop-slot-init c =
    let a = c.args in
    let l : length a.p ≡ word_count = search rules in
    let b = begun _ _ _ c.into_iter-slot-iterator.ensures.into_iter_gives c.of-slot-items.ensures.set_is c.of-slot-items.ensures.from_is in
    (b.0, rw b.1 (telling_none _ _ a.kind a.n a.p a.actions.now l))

pub tell-requires : goal.tell-requires
tell-requires c =
    let l = c.loop-slot in
    let t = took _ _ _ _ _ l.invariant.0 c.in-Some.is c.next.ensures.steps in
    record {
      tells = record {
        size = c.requires.size;
        writable = telling_room _ _ _ _ _ _ _ l.actions l.k _ _ l.invariant.1 t.next t.slot_lt c.requires.writable;
      };
      slot_lt_slot_count = t.slot_lt;
    }

pub overflow_add-k : goal.overflow_add-k
overflow_add-k c =
    let l = c.loop-slot in
    let t = took _ _ _ _ _ l.invariant.0 c.in-Some.is c.next.ensures.steps in
    let w = telling_room _ _ _ _ _ _ _ l.actions l.k _ _ l.invariant.1 t.next t.slot_lt c.requires.writable in
    let z = l.invariant.1.size in
    omega (arith, w.room)

pub loop-slot-preserved : goal.loop-slot-preserved
loop-slot-preserved c =
    let l = c.loop-slot in
    let t = took _ _ _ _ _ l.invariant.0 c.in-Some.is c.next.ensures.steps in
    (t.set_is, rw t.from_is (telling_more _ _ _ _ _ _ _ l.actions l.k _ _ l.invariant.1 t.next t.slot_lt _ c.tell.ensures))

pub shape_of-actions : goal.shape_of-actions
shape_of-actions c = c.loop-slot.invariant.1.size

pub returns : goal.returns
returns c =
    let l = c.loop-slot in
    let n = ended _ _ _ _ l.invariant.0 c.in-None.is c.next.ensures.steps in
    telling_done _ _ _ _ _ _ _ l.actions l.k _ l.invariant.1 n
