use native.Mathlib.Omega.{arith}
use lib.ListN.{length-set}
use Rattle.stores.proofs.ChangeLaws.{moved_cells}
use Rattle.stores.proofs.move_topic.Goals as goal

pub shape_of-cells : goal.shape_of-cells
shape_of-cells c = simp length-set (omega arith)

pub returns : goal.returns
returns c =
    moved_cells _ _ _ _ _ _ c.requires.1 c.shift.ensures
    c.shift-2.ensures c.shift-3.ensures c.shift-4.ensures
