use lib.Dec.{ltb}
use Rattle.index.proofs.Kit.{ℕ, refl, sym, ap, ◌∙◌}
use Rattle.words.proofs.SlotWalk.{begun, took, ended}
use Rattle.mesh.specs.Maintenance.{zero_score}
use Rattle.heartbeat.proofs.SettleLaws.{settling_none, settling_next, settling_ready, settling_more, settling_done}
use Rattle.heartbeat.proofs.settle.settle.Goals as goal

pub loop-slot-init : goal.loop-slot-init
loop-slot-init c =
    let b = begun _ _ _ c.into_iter-slot-iterator.ensures.into_iter_gives c.of-slot-items.ensures.set_is c.of-slot-items.ensures.from_is in
    (refl, rw b.1 (settling_none _ _ _ _ c.requires.standing.size))

pub settle_slot-requires : goal.settle_slot-requires
settle_slot-requires c =
    let b = begun _ _ _ c.into_iter-slot-iterator.ensures.into_iter_gives c.of-slot-items.ensures.set_is c.of-slot-items.ensures.from_is in
    let l = c.loop-slot in
    let t = took _ _ _ _ _ (l.invariant.0 ∙ b.0) c.in-Some.is c.next.ensures.steps in
    settling_ready c.args.table.now _ _ _ _ _ c.requires _ _ t.slot_lt l.table
    (settling_next c.args.table.now _ _ _ _ _ c.requires _ _ c.differ-changed.ensures _ _ _ t.next l.invariant.1)

pub loop-slot-preserved : goal.loop-slot-preserved
loop-slot-preserved c =
    let b = begun _ _ _ c.into_iter-slot-iterator.ensures.into_iter_gives c.of-slot-items.ensures.set_is c.of-slot-items.ensures.from_is in
    let l = c.loop-slot in
    let t = took _ _ _ _ _ (l.invariant.0 ∙ b.0) c.in-Some.is c.next.ensures.steps in (
      t.set_is ∙ sym b.0,
      rw t.from_is
          (settling_more c.args.table.now _ _ _ _ _ c.requires _ _ t.slot_lt l.table
          (settling_next c.args.table.now _ _ _ _ _ c.requires _ _ c.differ-changed.ensures _ _ _ t.next l.invariant.1) _ _ _ _
          c.at-was.ensures
          c.at-stays.ensures
          (ap (λ (x : ℕ). ltb x zero_score) c.number_at-negative.ensures)
          c.settle_slot.auto.table
          c.settle_slot.ensures),
    )

pub shape_of-table : goal.shape_of-table
shape_of-table c = c.loop-slot.invariant.1.size ∙ sym c.requires.standing.size

pub returns : goal.returns
returns c =
    let b = begun _ _ _ c.into_iter-slot-iterator.ensures.into_iter_gives c.of-slot-items.ensures.set_is c.of-slot-items.ensures.from_is in
    let l = c.loop-slot in
    let n = ended _ _ _ _ (l.invariant.0 ∙ b.0) c.in-None.is c.next.ensures.steps in
    settling_done _ _ _ _ _
    (settling_next c.args.table.now _ _ _ _ _ c.requires _ _ c.differ-changed.ensures _ _ _ n l.invariant.1)
