use mathlib.Core.Path.{sym, ◌∙◌}
use lib.ListN.{length-set}
use Rattle.layout.proofs.MarkLaws.{clear_start, clear_more, clear_end}
use native.Mathlib.Omega.{arith}
use Rattle.layout.proofs.clear_slot.Goals as goal

pub loop-t-init : goal.loop-t-init
loop-t-init c =
    clear_start c.args.cells.now _ c.args.s c.requires.0 c.requires.1.0 c.requires.1.1 c.set_columns.ensures.0

pub bounds-cells-s : goal.bounds-cells-s
bounds-cells-s c = simp length-set (omega arith)

pub bounds-cells-s-in-loop-t : goal.bounds-cells-s-in-loop-t
bounds-cells-s-in-loop-t c = simp length-set (omega arith)

pub loop-t-preserved : goal.loop-t-preserved
loop-t-preserved c =
    let l = c.loop-t in
    clear_more _ l.cells c.args.s l.t c.requires.1.0 (omega arith) l.invariant.1 l.invariant.2 l.invariant.3 l.invariant.4

pub shape_of-cells : goal.shape_of-cells
shape_of-cells c = c.loop-t.invariant.1 ∙ sym c.requires.0

pub returns : goal.returns
returns c =
    let l = c.loop-t in
    clear_end c.args.cells.now _ l.cells c.args.s l.t c.requires.0 c.requires.1.0 c.requires.1.1
    c.set_columns.ensures.0 l.invariant.0 (omega arith) l.invariant.3 l.invariant.4
