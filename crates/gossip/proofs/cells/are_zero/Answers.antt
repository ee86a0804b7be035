use Prim.Native.Nat.{ℕ}
use mathlib.Core.Path.{ap, ◌∙◌}
use native.Mathlib.Omega.{arith}
use Rattle.gossip.proofs.CellLaws.{zeros, zeros_none, zeros_more}
use Rattle.gossip.proofs.cells.are_zero.Goals as goal

pub loop-cell-init : goal.loop-cell-init
loop-cell-init c = zeros_none _

pub loop-cell-preserved : goal.loop-cell-preserved
loop-cell-preserved c =
    let l = c.loop-cell in
    zeros_more c.args.cells.now l.cell-index l.bits l.invariant

pub returns : goal.returns
returns c = c.loop-cell.invariant ∙ ap (λ (n : ℕ). zeros c.args.cells.now n) (omega arith)
