use native.Mathlib.Omega.{arith}
use Rattle.replies.proofs.CallLaws.{opened_run}
use Rattle.replies.proofs.open_rows.Goals as goal

pub copy_within-requires : goal.copy_within-requires
copy_within-requires c =
    let s = c.requires.size in
    let a = c.requires.place in
    let b = c.requires.room in
    (omega arith, omega arith)

pub returns : goal.returns
returns c = opened_run c.args.cells.now _ c.args.p c.args.u c.requires.place c.copy_within.ensures
