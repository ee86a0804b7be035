use Rattle.records.specs.Records.{slot_count}
use Rattle.index.proofs.Kit.{sym, ◌∙◌, arith}
use Rattle.index.proofs.Index.{iter_none, iter_more, iter_done}
use Rattle.layout.specs.View.{state_of}
use Rattle.rules.specs.Step.{decay_slot}
use Rattle.deliveries.proofs.DecayLaws.{decays_of, at_slot, decay_done}
use Rattle.deliveries.proofs.decay_from.Goals as goal

pub loop-slot-init : goal.loop-slot-init
loop-slot-init c = (omega arith, c.requires.standing.size, sym (iter_none _ _))

pub decay_slot-requires : goal.decay_slot-requires
decay_slot-requires c =
    let l = c.loop-slot in
    let standing = c.requires.standing in
    record {
      size = l.invariant.1;
      decays = at_slot _ _ _ _ (decays_of _ standing.router) l.invariant.0 l.invariant.2;
      slot = omega arith;
    }

pub loop-slot-preserved : goal.loop-slot-preserved
loop-slot-preserved c =
    let a = c.args in
    let l = c.loop-slot in
    let k = c.decay_slot in (
      omega arith,
      k.auto.table ∙ l.invariant.1,
      iter_more (decay_slot a.time) (state_of a.table.now) l.slot (state_of l.table) _ l.invariant.2 k.ensures,
    )

pub finish-requires : goal.finish-requires
finish-requires c = c.loop-slot.invariant.1

pub shape_of-table : goal.shape_of-table
shape_of-table c = c.finish.auto.table ∙ c.loop-slot.invariant.1
    ∙ sym c.requires.standing.size

pub returns : goal.returns
returns c =
    let a = c.args in
    let l = c.loop-slot in
    decay_done _ _ _ _ _
    (iter_done (decay_slot a.time) (state_of a.table.now) slot_count l.slot (state_of l.table) (omega arith) (omega arith)
    l.invariant.2)
    c.finish.ensures
