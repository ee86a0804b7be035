use mathlib.Core.Path.{sym, ◌∙◌}
use native.Mathlib.Omega.{arith}
use Rattle.notes.proofs.NoteLaws.{beating_start, beating_in, beating_out, beating_fits, beating_done}
use Rattle.notes.proofs.beat.Goals.{then-cells-s-ne0, else-cells-s-ne0}
use Rattle.notes.proofs.beat.Goals as goal

pub loop-s-init : goal.loop-s-init
loop-s-init c = beating_start c.args.cells.now c.requires.size

pub bounds-cells-s : goal.bounds-cells-s
bounds-cells-s c = let e = c.loop-s.invariant.size in omega arith

pub beat_slot-requires : goal.beat_slot-requires
beat_slot-requires c =
    beating_fits c.args.cells.now c.loop-s.cells c.loop-s.s (omega arith) c.requires c.loop-s.invariant

pub loop-s-preserved : goal.loop-s-preserved
loop-s-preserved c =
    let a = c.args in
    let l = c.loop-s in
    elim c.if-cells-s-ne0.branch [
      | then-cells-s-ne0 w ↦ beating_in a.cells.now l.cells c.if-cells-s-ne0.cells _ l.s (omega arith) l.invariant w.cells-is w.beat_slot.auto.cells
          w.beat_slot.ensures
      | else-cells-s-ne0 w ↦ beating_out a.cells.now l.cells c.if-cells-s-ne0.cells l.s (omega arith) l.invariant w.cells-is w.if-cells-s-ne0.false
    ]

pub shape_of-cells : goal.shape_of-cells
shape_of-cells c = c.loop-s.invariant.size ∙ sym c.requires.size

pub returns : goal.returns
returns c =
    let l = c.loop-s in
    beating_done c.args.cells.now l.cells l.s (omega arith) l.invariant
