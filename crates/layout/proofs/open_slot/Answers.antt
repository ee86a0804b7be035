use mathlib.Core.Path.{sym, ◌∙◌}
use native.Mathlib.Omega.{arith}
use Rattle.layout.proofs.MarkLaws.{open_end}
use Rattle.layout.proofs.open_slot.Goals as goal

pub clear_slot-requires : goal.clear_slot-requires
clear_slot-requires c =
    let u = c.requires.1.0 in
    (c.requires.0, (c.requires.1.1, omega arith))

pub bounds-cells-9 : goal.bounds-cells-9
bounds-cells-9 c = let z = c.clear_slot.ensures.0.size in omega arith

pub shape_of-cells : goal.shape_of-cells
shape_of-cells c =
    (open_end c.args.cells.now _ c.args.s c.requires.1.0 c.requires.1.1 c.clear_slot.ensures.0
    c.clear_slot.ensures.1).1.1
    ∙ sym c.requires.0

pub returns : goal.returns
returns c =
    open_end c.args.cells.now _ c.args.s c.requires.1.0 c.requires.1.1 c.clear_slot.ensures.0 c.clear_slot.ensures.1
