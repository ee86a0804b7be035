-- `layout::set_columns`: seven cells are written.
use mathlib.Core.Path.{refl}
use Rattle.layout.specs.View.{set_columns}
use Rattle.layout.proofs.SlotLaws.{length_columns}
use lib.ListN.{length-set}
use native.Mathlib.Omega.{arith}
use Rattle.layout.proofs.set_columns.Goals as goal

pub bounds-cells-s-2 : goal.bounds-cells-s-2
bounds-cells-s-2 c = simp length-set (omega arith)

pub bounds-cells-s-3 : goal.bounds-cells-s-3
bounds-cells-s-3 c = simp length-set (omega arith)

pub bounds-cells-s-4 : goal.bounds-cells-s-4
bounds-cells-s-4 c = simp length-set (omega arith)

pub bounds-cells-s-5 : goal.bounds-cells-s-5
bounds-cells-s-5 c = simp length-set (omega arith)

pub bounds-cells-s-6 : goal.bounds-cells-s-6
bounds-cells-s-6 c = simp length-set (omega arith)

pub bounds-cells-s-7 : goal.bounds-cells-s-7
bounds-cells-s-7 c = simp length-set (omega arith)

pub returns : goal.returns
unfolding set_columns
returns c =
    let g = c.args.g in (
      refl,
      length_columns c.args.cells.now c.args.s c.args.id g.first g.second g.third g.fourth c.args.p57
          c.args.retain,
    )
