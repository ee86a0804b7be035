-- `layout::enter_mesh`: three stores to the cells of one place; the law of a store asks no more.
use mathlib.Core.Path.{ap, ◌∙◌}
use lib.ListN.{set}
use Rattle.layout.specs.View.{state_of}
use Rattle.layout.proofs.PlaceLaws.{into_written}
use lib.ListN.{length-set}
use native.Mathlib.Omega.{arith}
use Rattle.layout.proofs.enter_mesh.Goals as goal

pub bounds-cells-k-2 : goal.bounds-cells-k-2
bounds-cells-k-2 c = simp length-set (omega arith)

pub set_bit-requires : goal.set_bit-requires
set_bit-requires c = simp length-set (omega arith)

pub shape_of-cells : goal.shape_of-cells
shape_of-cells c =
    c.set_bit.ensures.1 ∙ length-set (set c.args.cells.now _ _) _ _
    ∙ length-set c.args.cells.now _ _

pub returns : goal.returns
returns c =
    ap state_of c.set_bit.ensures.0
    ∙ into_written c.args.cells.now c.args.k c.requires.0 c.requires.1 c.args.time
