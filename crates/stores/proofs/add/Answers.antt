use native.Mathlib.Omega.{arith}
use lib.ListN.{length-set}
use Rattle.stores.proofs.ChangeLaws.{window_of, added_cells}
use Rattle.stores.proofs.ViewLaws.{changed_stores}
use Rattle.stores.proofs.add.Goals as goal

pub size-count-requires : goal.size-count-requires
size-count-requires c = window_of _ _ c.requires.0 (omega arith)

pub bounds-cells-p : goal.bounds-cells-p
bounds-cells-p c = simp length-set (omega arith)

pub returns : goal.returns
returns c =
    let m = added_cells _ _ c.args.n c.requires.0 c.requires.1.0 c.requires.1.1 in
    rw (c.start.ensures, c.size-count.ensures.0) (changed_stores _ _ _ _ m, m.windows)
