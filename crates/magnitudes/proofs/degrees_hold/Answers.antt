use native.Mathlib.Omega.{arith}
use Rattle.layout.specs.View.{state_of}
use Rattle.magnitudes.proofs.SizeLaws.{size_of, out_few, degrees_told}
use Rattle.magnitudes.proofs.degrees_hold.Goals as goal

pub load_magnitude-lo-requires : goal.load_magnitude-lo-requires
load_magnitude-lo-requires c = (c.requires.0, omega arith)

pub load_magnitude-d-requires : goal.load_magnitude-d-requires
load_magnitude-d-requires c = (c.requires.0, omega arith)

pub load_magnitude-hi-requires : goal.load_magnitude-hi-requires
load_magnitude-hi-requires c = (c.requires.0, omega arith)

pub load_magnitude-out-requires : goal.load_magnitude-out-requires
load_magnitude-out-requires c = (c.requires.0, omega arith)

pub overflow_mul-result : goal.overflow_mul-result
overflow_mul-result c =
    let st = state_of c.args.table.now in
    let h = size_of st 3 _ c.load_magnitude-out.ensures.0 in
    omega (arith, out_few st.codes c.requires.1)

pub returns : goal.returns
returns c =
    degrees_told _ _ _ _ _ (size_of _ 0 _ c.load_magnitude-lo.ensures.0)
    (size_of _ 1 _ c.load_magnitude-d.ensures.0)
    (size_of _ 2 _ c.load_magnitude-hi.ensures.0)
    (size_of _ 3 _ c.load_magnitude-out.ensures.0)
