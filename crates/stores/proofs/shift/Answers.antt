use native.Mathlib.Omega.{arith}
use Rattle.stores.proofs.ChangeLaws.{window_of, shifted_cells}
use Rattle.stores.proofs.shift.Goals as goal

pub size-n-requires : goal.size-n-requires
size-n-requires c = window_of _ _ c.requires.0 (omega arith)

pub copy_within-requires : goal.copy_within-requires
copy_within-requires c =
    let s = c.requires.0.cells in
    let e = c.start-at.ensures in
    let n = c.size-n.ensures in
    (omega arith, omega arith)

pub returns : goal.returns
returns c =
    rw c.size-n.ensures.0
    (shifted_cells _ _ _ c.requires.0 c.requires.1 (rw (c.start-at.ensures, c.size-n.ensures.0) at c.copy_within.ensures))
