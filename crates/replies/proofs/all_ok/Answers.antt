use Rattle.index.proofs.Flags.{yes, no}
use mathlib.Core.Path.{sym}
use native.Mathlib.Omega.{arith}
use Rattle.replies.specs.Asked.{on_bits}
use Rattle.replies.proofs.RowLaws.{rows_length}
use Rattle.replies.proofs.TestLaws.{tested_none, tested_more, not_rising, not_fitting, all_tested}
use Rattle.replies.proofs.all_ok.Goals as goal

pub loop-r-init : goal.loop-r-init
loop-r-init c =
    let a = c.args in
    (omega arith, rows_length a.cells.now, tested_none (on_bits a.connected.now) a.most a.cells.now)

pub rises_at-requires : goal.rises_at-requires
rises_at-requires c = (c.requires.size, omega arith)

pub returns-then-not-rises_at : goal.returns-then-not-rises_at
returns-then-not-rises_at c =
    let a = c.args in
    sym
    (not_rising (on_bits a.connected.now) a.most a.cells.now c.loop-r.r (omega arith)
    (no c.rises_at.ensures c.if-not-rises_at.true))

pub row_ok-requires : goal.row_ok-requires
row_ok-requires c =
    record { size = c.requires.size; row = omega arith; limits = c.requires.limits }

pub returns-then-not-row_ok : goal.returns-then-not-row_ok
returns-then-not-row_ok c =
    let a = c.args in
    sym
    (not_fitting (on_bits a.connected.now) a.most a.cells.now c.loop-r.r (omega arith)
    (no c.row_ok.ensures c.if-not-row_ok.true))

pub loop-r-preserved : goal.loop-r-preserved
loop-r-preserved c =
    let a = c.args in
    let l = c.loop-r in (
      omega arith,
      l.invariant.1,
      tested_more (on_bits a.connected.now) a.most a.cells.now l.r (yes c.rises_at.ensures c.if-not-rises_at.false)
          (yes c.row_ok.ensures c.if-not-row_ok.false) l.invariant.2,
    )

pub returns : goal.returns
returns c =
    let a = c.args in
    let l = c.loop-r in
    sym (all_tested (on_bits a.connected.now) a.most a.cells.now l.r (omega arith) (omega arith) l.invariant.2)
