-- `gossip::cells::are_zero`: the bits so far are 0 if each cell so far is.
use mathlib.Core.Path.{◌≡◌}
use lib.Dec.{eqb}
use Rattle.gossip.proofs.CellLaws.{zeros}
use Rattle.gossip.proofs.cells.are_zero.Given as goal

abbrev pub invariant-loop-cell : goal.invariant-loop-cell
invariant-loop-cell l = eqb l.bits 0 ≡ zeros l.cells l.cell-index
