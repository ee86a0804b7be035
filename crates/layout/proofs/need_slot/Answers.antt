use mathlib.Core.Path.{refl, sym, ◌∙◌}
use native.Mathlib.Omega.{arith}
use Rattle.layout.proofs.need_slot.Goals as goal

pub loop-s-init : goal.loop-s-init
loop-s-init c = (c.requires.0, refl, refl)

pub open_slot-requires : goal.open_slot-requires
open_slot-requires c = (c.loop-s.invariant.0, (c.loop-s.invariant.2, let h = c.requires.1 in omega arith))

pub loop-s-preserved : goal.loop-s-preserved
loop-s-preserved c =
    let o = c.open_slot.ensures in
    (o.1.1, o.0 ∙ c.loop-s.invariant.1, let u = o.1.0 in let i = c.loop-s.invariant.2 in omega arith)

pub shape_of-cells : goal.shape_of-cells
shape_of-cells c = c.loop-s.invariant.0 ∙ sym c.requires.0

pub returns : goal.returns
returns c = (c.loop-s.invariant.1, (let u = c.loop-s.invariant.2 in omega arith, c.loop-s.invariant.0))
