use Rattle.index.proofs.Flags.{yes, no}
use Prim.Native.Nat.{ℕ, ◌+◌, ◌*◌}
use mathlib.Core.Path.{sym, ap, ◌∙◌}
use mathlib.Core.Bool.{Bool}
use mathlib.Core.List.{List}
use native.Mathlib.Omega.{arith}
use Rattle.index.proofs.Index.{every_none, every_more, every_out, every_in}
use Rattle.replies.specs.View.{lane_count, lane_in}
use Rattle.replies.specs.Asked.{on_bits, lane_fits, cell_fits}
use Rattle.replies.proofs.lanes_ok.Goals as goal

-- the test of the count v in lane j
abbrev within : List ℕ → ℕ → ℕ → ℕ → ℕ → Bool
within connected most k j v = lane_fits (on_bits connected) most (lane_count * k + j) v

pub loop-j-init : goal.loop-j-init
loop-j-init c = (omega arith, every_none _)

pub returns-then-not-lane_ok : goal.returns-then-not-lane_ok
unfolding cell_fits
returns-then-not-lane_ok c =
    let l = c.loop-j in
    let a = c.args in
    let e = sym c.lane.ensures in
    every_out (λ i. within a.connected.now a.most a.k i (lane_in a.x i)) lane_count l.j (omega arith)
    (ap (within a.connected.now a.most a.k l.j) e ∙ no c.lane_ok.ensures c.if-not-lane_ok.true)

pub loop-j-preserved : goal.loop-j-preserved
loop-j-preserved c =
    let l = c.loop-j in
    let a = c.args in
    let e = sym c.lane.ensures in (
      omega arith,
      every_more _ l.j l.invariant.1
          (ap (within a.connected.now a.most a.k l.j) e ∙ yes c.lane_ok.ensures c.if-not-lane_ok.false),
    )

pub returns : goal.returns
unfolding cell_fits
returns c = let l = c.loop-j in every_in _ lane_count l.j l.invariant.0 (omega arith) l.invariant.1
