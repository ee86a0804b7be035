-- `replies::rows_ok`: no row passes the test, and too many do not.
use mathlib.Core.Path.{sym}
use native.Mathlib.Omega.{arith}
use Rattle.replies.specs.Asked.{on_bits}
use Rattle.replies.proofs.RowLaws.{rows_length}
use Rattle.replies.proofs.TestLaws.{tested_none, too_many, all_tested}
use Rattle.replies.proofs.rows_ok.Goals as goal

pub returns-then-cells-eq0 : goal.returns-then-cells-eq0
returns-then-cells-eq0 c =
    let a = c.args in
    let t = tested_none (on_bits a.connected.now) a.most a.cells.now in
    sym (all_tested (on_bits a.connected.now) a.most a.cells.now 0 (omega arith) (omega arith) t)

pub returns-then-cells : goal.returns-then-cells
returns-then-cells c =
    let a = c.args in
    sym (too_many (on_bits a.connected.now) a.most a.cells.now c.if-cells.true)

pub all_ok-requires : goal.all_ok-requires
all_ok-requires c =
    let e = rows_length c.args.cells.now in
    record { size = c.requires; few = omega arith; limits = c.limits-l.ensures }

pub returns : goal.returns
returns c = c.all_ok.ensures
