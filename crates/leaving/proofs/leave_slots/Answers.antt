use Rattle.index.proofs.Kit.{refl, sym, ◌∙◌, arith}
use Rattle.leaving.proofs.LeaveLaws.{walking_length, walking_none, walking_ready, walking_more, walking_done}
use Rattle.leaving.proofs.leave_slots.Goals as goal

pub loop-slot-init : goal.loop-slot-init
loop-slot-init c = (omega arith, walking_none _ _ _ _ c.requires.standing.size)

pub leave_slot-at-requires : goal.leave_slot-at-requires
leave_slot-at-requires c =
    let l = c.loop-slot in
    walking_ready c.args.table.now c.args.actions.now _ _ _ _ c.requires l.slot c.loop-slot-test.true l.table l.actions
    l.at l.invariant.1

pub loop-slot-preserved : goal.loop-slot-preserved
loop-slot-preserved c =
    let l = c.loop-slot in (
      omega arith,
      walking_more c.args.table.now c.args.actions.now _ _ _ _ c.requires l.slot c.loop-slot-test.true l.table l.actions
          l.at l.invariant.1 _ _ _ _ refl c.leave_slot-at.auto.table c.leave_slot-at.ensures,
    )

pub shape_of-table : goal.shape_of-table
shape_of-table c = c.loop-slot.invariant.1.size ∙ sym c.requires.standing.size

pub shape_of-actions : goal.shape_of-actions
shape_of-actions c = walking_length _ _ _ _ _ _ _ _ c.loop-slot.invariant.1

pub returns : goal.returns
returns c =
    let l = c.loop-slot in
    walking_done _ _ _ _ l.slot l.table l.actions l.at l.invariant.0 c.loop-slot-test.false l.invariant.1
