-- `layout::set_bit`: one cell is written, with one bit of it changed.
use mathlib.Core.Path.{ap}
use Prim.Native.Nat.{◌+◌, ◌/◌}
use lib.ListN.{set}
use Rattle.layout.specs.View.{set_bit}
use lib.ListN.{length-set}
use Rattle.layout.proofs.set_bit.Goals as goal

pub returns : goal.returns
unfolding set_bit
returns c =
    let a = c.args in
    (ap (λ x. set a.cells.now (a.o + a.s / 64) x) c.with_bit.ensures, length-set a.cells.now _ _)
