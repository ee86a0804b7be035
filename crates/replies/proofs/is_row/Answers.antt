-- `replies::is_row`: the number of a row in use is compared; any other place has none.
use mathlib.Core.Path.{sym, ap, ◌∙◌}
use native.Mathlib.Omega.{arith}
use lib.Dec.{eqb}
use Rattle.replies.specs.View.{replies_of}
use Rattle.replies.proofs.RowLaws.{rows_length, number_load}
use Rattle.replies.proofs.CallLaws.{row_in, row_out}
use Rattle.replies.proofs.is_row.Goals as goal

pub rows-requires : goal.rows-requires
rows-requires c = c.requires.size

pub returns-then-p-rows : goal.returns-then-p-rows
returns-then-p-rows c =
    let l = replies_of c.args.cells.now in
    let e = rows_length c.args.cells.now in
    ap (λ n. eqb n c.args.n) (sym (number_load c.args.cells.now c.args.p (omega arith)))
    ∙ sym (row_in l c.args.p c.args.n (omega arith))

pub returns-else-p-rows : goal.returns-else-p-rows
returns-else-p-rows c =
    sym (row_out (replies_of c.args.cells.now) c.args.p c.args.n (omega arith))
