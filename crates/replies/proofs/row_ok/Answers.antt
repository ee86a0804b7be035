use Rattle.index.proofs.Flags.{yes, no}
use Prim.Native.Nat.{◌+◌}
use native.Mathlib.Omega.{arith}
use lib.ListN.{get_or}
use Rattle.index.proofs.Index.{every_none, every_more, every_out, every_in}
use Rattle.replies.specs.View.{lane_cells, start_of}
use Rattle.replies.specs.Asked.{on_bits, cell_fits, lanes_fit}
use Rattle.replies.proofs.row_ok.Goals as goal

pub loop-k-init : goal.loop-k-init
loop-k-init c = (omega arith, every_none _)

pub cell_ok-requires : goal.cell_ok-requires
cell_ok-requires c =
    (omega arith, c.requires.limits c.loop-k.k (omega arith))

pub returns-then-not-cell_ok : goal.returns-then-not-cell_ok
unfolding lanes_fit
returns-then-not-cell_ok c =
    let a = c.args in
    every_out (λ i. cell_fits (on_bits a.connected.now) a.most i (get_or a.cells.now (start_of a.r + (2 + i)) 0)) lane_cells
    c.loop-k.k (omega arith) (no c.cell_ok.ensures c.if-not-cell_ok.true)

pub loop-k-preserved : goal.loop-k-preserved
loop-k-preserved c =
    let l = c.loop-k in
    (omega arith, every_more _ l.k l.invariant.1 (yes c.cell_ok.ensures c.if-not-cell_ok.false))

pub returns : goal.returns
unfolding lanes_fit
returns c = let l = c.loop-k in every_in _ lane_cells l.k l.invariant.0 (omega arith) l.invariant.1
