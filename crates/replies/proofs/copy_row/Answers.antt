use native.Mathlib.Omega.{arith}
use Rattle.replies.proofs.RowLaws.{copy_set}
use Rattle.replies.proofs.copy_row.Goals as goal

pub copy_within-requires : goal.copy_within-requires
copy_within-requires c =
    let s = c.requires.size in
    let a = c.requires.first in
    let b = c.requires.second in
    (omega arith, omega arith)

pub returns : goal.returns
returns c = copy_set c.args.cells.now _ c.args.from c.args.to c.copy_within.ensures
