-- `replies::none`: what a lane holds is taken from the cell.
use Prim.Native.Nat.{◌*◌, ◌≤◌}
use native.Mathlib.Omega.{arith}
use Rattle.replies.proofs.LaneLaws.{none_in, none_of}
use Rattle.replies.proofs.none.Goals as goal

pub overflow_mul-result : goal.overflow_mul-result
overflow_mul-result c =
    let a = c.args in
    let h : c.lane.result * c.unit.result ≤ a.x = none_in a.x a.j c.lane.result c.unit.result c.lane.ensures c.unit.ensures in
    omega arith

pub overflow_sub-result : goal.overflow_sub-result
overflow_sub-result c =
    let a = c.args in
    none_in a.x a.j c.lane.result c.unit.result c.lane.ensures c.unit.ensures

pub returns : goal.returns
returns c =
    let a = c.args in
    none_of a.x a.j c.lane.result c.unit.result c.lane.ensures c.unit.ensures
