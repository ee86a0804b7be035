use native.Mathlib.Omega.{arith}
use Rattle.notes.proofs.NoteLaws.{size_under, notes_put}
use Rattle.notes.proofs.put.Goals as goal

pub put_row-requires : goal.put_row-requires
put_row-requires c =
    let l = size_under c.args.cells.now c.args.slot c.requires.slot c.requires.held in
    let z = c.requires.size in
    (omega arith, omega arith)

pub overflow_add-cells-2 : goal.overflow_add-cells-2
overflow_add-cells-2 c =
    let l = size_under c.args.cells.now c.args.slot c.requires.slot c.requires.held in
    omega arith

pub returns : goal.returns
returns c =
    notes_put c.args.cells.now _ c.args.slot c.args.number _ c.requires.slot c.requires.size c.requires.held c.requires.puts
    c.row_at.ensures.0 c.put_row.ensures
