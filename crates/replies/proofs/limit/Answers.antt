-- `replies::limit`: a lane holds less than 64, so that no larger limit is wanted.
use Rattle.index.proofs.Flags.{yes}
use native.Mathlib.Omega.{arith}
use Rattle.replies.specs.Asked.{on_bits}
use Rattle.replies.proofs.LimitLaws.{limit_past, limit_none, limit_most}
use Rattle.replies.proofs.limit.Goals as goal

pub returns-then-s-ge-SLOTS : goal.returns-then-s-ge-SLOTS
returns-then-s-ge-SLOTS c = let a = c.args in limit_past (on_bits a.connected.now) a.most a.s c.if-s-ge-SLOTS.true

pub returns-then-not-at : goal.returns-then-not-at
returns-then-not-at c = let a = c.args in limit_none (on_bits a.connected.now) a.most a.s

pub returns-then-most-lt-LANE : goal.returns-then-most-lt-LANE
returns-then-most-lt-LANE c =
    let a = c.args in
    limit_most (on_bits a.connected.now) a.most a.s a.most c.if-most-lt-LANE.true (omega arith)
    (yes c.at.ensures c.if-not-at.false)

pub returns : goal.returns
returns c =
    let a = c.args in
    limit_most (on_bits a.connected.now) a.most a.s 63 (omega arith) (omega arith)
    (yes c.at.ensures c.if-not-at.false)
