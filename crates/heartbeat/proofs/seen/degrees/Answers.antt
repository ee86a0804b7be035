-- `heartbeat::seen::degrees`: each number as it was loaded; the threshold fits its width.
use native.Mathlib.Omega.{arith}
use Rattle.heartbeat.proofs.SeenLaws.{opportunistic, degrees_are}
use Rattle.heartbeat.proofs.seen.degrees.Goals as goal

pub load_magnitude-requires : goal.load_magnitude-requires
load_magnitude-requires c = record { size = c.requires.size; param = omega arith }

pub load_magnitude-requires-2 : goal.load_magnitude-requires-2
load_magnitude-requires-2 c = record { size = c.requires.size; param = omega arith }

pub load_magnitude-requires-3 : goal.load_magnitude-requires-3
load_magnitude-requires-3 c = record { size = c.requires.size; param = omega arith }

pub load_magnitude-requires-4 : goal.load_magnitude-requires-4
load_magnitude-requires-4 c = record { size = c.requires.size; param = omega arith }

pub load_magnitude-requires-5 : goal.load_magnitude-requires-5
load_magnitude-requires-5 c = record { size = c.requires.size; param = omega arith }

pub load_magnitude-requires-6 : goal.load_magnitude-requires-6
load_magnitude-requires-6 c = record { size = c.requires.size; param = omega arith }

pub overflow_mul-result : goal.overflow_mul-result
overflow_mul-result c =
    let p = c.requires in
    omega (arith, c.load_magnitude-6.ensures, opportunistic _ p.router)

pub overflow_add-result : goal.overflow_add-result
overflow_add-result c =
    let p = c.requires in
    omega (arith, c.load_magnitude-6.ensures, opportunistic _ p.router)

pub returns : goal.returns
returns c =
    degrees_are _ _ _ _ _ _ _ c.load_magnitude.ensures c.load_magnitude-2.ensures c.load_magnitude-3.ensures
    c.load_magnitude-4.ensures
    c.load_magnitude-5.ensures c.load_magnitude-6.ensures
