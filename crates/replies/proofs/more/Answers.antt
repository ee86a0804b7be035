-- `replies::more`: a lane that is not full has room for one more.
use native.Mathlib.Omega.{arith}
use Rattle.replies.proofs.LaneLaws.{more_in, more_of}
use Rattle.replies.proofs.more.Goals as goal

pub overflow_add-result : goal.overflow_add-result
overflow_add-result c =
    let h = more_in c.args.x c.args.j c.unit.result c.unit.ensures c.requires.1 c.requires.0 (omega arith) in
    omega arith

pub returns : goal.returns
returns c = more_of c.args.x c.args.j c.unit.result c.unit.ensures c.requires.1
