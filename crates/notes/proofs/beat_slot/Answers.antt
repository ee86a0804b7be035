-- `notes::beat_slot`: the row is aged in place, and the column cell keeps its new length alone.
use native.Mathlib.Omega.{arith}
use Rattle.notes.proofs.NoteLaws.{size_at, notes_beaten}
use Rattle.notes.proofs.beat_slot.Goals as goal

pub age_row-m-requires : goal.age_row-m-requires
age_row-m-requires c =
    let l = size_at c.args.cells.now c.args.slot c.requires.slot c.requires.held in
    let z = c.requires.size in
    record { row = omega arith; held = l }

pub overflow_mul-cells : goal.overflow_mul-cells
overflow_mul-cells c =
    let l = size_at c.args.cells.now c.args.slot c.requires.slot c.requires.held in
    let h = c.age_row-m.ensures.few in
    omega arith

pub returns : goal.returns
returns c =
    notes_beaten c.args.cells.now _ c.args.slot _ _ c.requires.slot c.requires.size c.requires.held
    c.row_at.ensures.0 c.age_row-m.ensures
