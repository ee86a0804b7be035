-- `layout::is_bare`: a bit of the members' words together, then the counters together.
use Prim.Native.Nat.{◌%◌}
use native.Mathlib.Omega.{arith}
use borrow.Author.Tests.{eqb-true}
use mathlib.Core.Bool.{false≢true}
use Rattle.layout.proofs.BareLaws.{bare}
use Rattle.layout.proofs.is_bare.Goals as goal

pub returns-then-meshed-slot-ne0 : goal.returns-then-meshed-slot-ne0
returns-then-meshed-slot-ne0 c e = absurd (false≢true e)

pub returns : goal.returns
returns c e t l =
    bare c.args.cells.now c.args.slot t c.requires.1 l (c.counted.ensures (eqb-true _ _ e) t l)
    (c.meshed.ensures (c.args.slot % 64) (omega arith))
