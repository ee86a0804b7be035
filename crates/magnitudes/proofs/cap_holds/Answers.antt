use native.Mathlib.Omega.{arith}
use Rattle.layout.specs.View.{state_of}
use Rattle.limits.specs.Limits.{place}
use Rattle.magnitudes.proofs.SizeLaws.{size_of, cap_told}
use Rattle.magnitudes.proofs.cap_holds.Goals as goal

pub load_magnitude-cap-requires : goal.load_magnitude-cap-requires
load_magnitude-cap-requires c = (c.requires.0, omega arith)

pub load_magnitude-threshold-requires : goal.load_magnitude-threshold-requires
load_magnitude-threshold-requires c = (c.requires.0, omega arith)

pub returns : goal.returns
returns c =
    let s = c.requires in
    let t = c.args.t in
    let st = state_of c.args.table.now in
    cap_told st.codes s.1.0 t _ _ s.1.1 (size_of st (place t 9) _ c.load_magnitude-cap.ensures.0)
    (size_of st (place t 10) _ c.load_magnitude-threshold.ensures.0)
