-- `peers::p5_ok`: the magnitude of a signed number is that of its words.
-- Assumes nothing.
use mathlib.Core.Path.{ap}
use Prim.Native.Nat.{ℕ}
use lib.Dec.{leb}
use mir.Facts.{to_z-of_z}
use Rattle.peers.proofs.p5_ok.Goals as goal

pub returns : goal.returns
returns c = ap (λ (n : ℕ). leb n 1000000000) (rw (to_z-of_z c.ranges.p5) at c.nat_abs.ensures)
