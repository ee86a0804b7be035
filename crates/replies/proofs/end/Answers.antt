use mathlib.Core.Path.{◌∙◌}
use native.Mathlib.Omega.{arith}
use Rattle.replies.proofs.RowLaws.{rows_length}
use Rattle.replies.proofs.CallLaws.{ending_none, ending_more, ending_done}
use Rattle.replies.proofs.end.Goals as goal

pub loop-r-init : goal.loop-r-init
loop-r-init c =
    let a = c.args in
    (omega arith, rows_length a.cells.now, ending_none a.cells.now a.slot)

pub end_count-requires : goal.end_count-requires
end_count-requires c =
    let l = c.loop-r in
    record { size = l.invariant.2.size ∙ c.requires.size; row = omega arith; slot = c.requires.slot }

pub loop-r-preserved : goal.loop-r-preserved
loop-r-preserved c =
    let l = c.loop-r in
    let e = c.end_count.ensures in
    (omega arith, l.invariant.1, ending_more c.args.cells.now l.cells _ c.args.slot l.r l.invariant.2 e)

pub shape_of-cells : goal.shape_of-cells
shape_of-cells c = c.loop-r.invariant.2.size

pub returns : goal.returns
returns c =
    let l = c.loop-r in
    ending_done c.args.cells.now l.cells c.args.slot l.r (omega arith) l.invariant.2
