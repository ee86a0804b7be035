-- `replies::row_number`: the first cell of a row is its number.
use mathlib.Core.Path.{sym}
use native.Mathlib.Omega.{arith}
use Rattle.replies.proofs.RowLaws.{rows_length, number_load}
use Rattle.replies.proofs.row_number.Goals as goal

pub returns : goal.returns
returns c =
    let e = rows_length c.args.cells.now in
    sym (number_load c.args.cells.now c.args.r (omega arith))
