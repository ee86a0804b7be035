-- `replies::cell_ok`: a cell of 0, and one under its limits, pass the test.
use mathlib.Core.Path.{sym}
use Rattle.replies.specs.Asked.{on_bits}
use Rattle.replies.proofs.TestLaws.{cell_zero}
use Rattle.replies.proofs.LimitLaws.{under_fits}
use Rattle.replies.proofs.cell_ok.Goals as goal

pub returns-then-x-eq0 : goal.returns-then-x-eq0
returns-then-x-eq0 c = let a = c.args in sym (cell_zero (on_bits a.connected.now) a.most a.k a.x c.if-x-eq0.true)

pub returns-then-under : goal.returns-then-under
returns-then-under c =
    let a = c.args in
    sym (under_fits (on_bits a.connected.now) a.most a.k a.x a.l c.requires.1 (c.under.ensures c.if-under.true))

pub lanes_ok-requires : goal.lanes_ok-requires
lanes_ok-requires c = c.requires.0

pub returns : goal.returns
returns c = c.lanes_ok.ensures
