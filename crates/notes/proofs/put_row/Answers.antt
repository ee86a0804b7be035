-- `notes::put_row`: the cells from the place on move up by one, numbers and ages alike, and the number stands there with age 0.
use native.Mathlib.Omega.{arith}
use lib.ListN.{length-set}
use Rattle.notes.proofs.HeldLaws.{row_put}
use Rattle.notes.proofs.put_row.Goals as goal

pub bounds-cells-at-3 : goal.bounds-cells-at-3
bounds-cells-at-3 c =
    let e = c.move_up.ensures.size in
    simp length-set (omega arith)

pub returns : goal.returns
returns c =
    row_put c.args.cells.now _ c.args.at c.args.n c.args.number c.place-p.result _ c.requires.0 c.requires.1
    c.place-p.ensures c.move_up.ensures c.with_gap.ensures
