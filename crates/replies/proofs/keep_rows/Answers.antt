use mathlib.Core.Path.{◌∙◌}
use native.Mathlib.Omega.{arith}
use lib.ListN.{length-set}
use Rattle.replies.proofs.RowLaws.{rows_length}
use Rattle.replies.proofs.CallLaws.{keeping_none, keeping_more, keeping_done}
use Rattle.replies.proofs.keep_rows.Goals as goal

pub loop-r-init : goal.loop-r-init
loop-r-init c =
    let a = c.args in
    (omega arith, rows_length a.cells.now, keeping_none a.cells.now a.flags.now)

pub keep_row-w-requires : goal.keep_row-w-requires
keep_row-w-requires c =
    let l = c.loop-r in
    record { size = l.invariant.2.size ∙ c.requires.size; row = omega arith; low = l.invariant.2.low }

pub loop-r-preserved : goal.loop-r-preserved
loop-r-preserved c =
    let l = c.loop-r in
    let k = c.keep_row-w.ensures in (
      omega arith,
      l.invariant.1,
      keeping_more c.args.cells.now c.args.flags.now l.cells _ l.r l.w _ l.invariant.2 k,
    )

pub shape_of-cells : goal.shape_of-cells
shape_of-cells c = simp length-set c.loop-r.invariant.2.size

pub returns : goal.returns
returns c =
    let l = c.loop-r in
    λ f say.
    keeping_done c.args.cells.now c.args.flags.now l.cells l.r l.w f c.requires.size (omega arith) l.invariant.0
    l.invariant.2 say
