-- `mesh::actions::put` meets its contract: three numbers are written one after the other, and each fits 32 bits. Assumes nothing.
use lib.ListN.{length-set}
use native.Mathlib.Omega.{arith}
use native.Mathlib.Numerals.{add-one, add-two}
use Rattle.mesh.proofs.actions.put.Goals as goal

pub bounds-actions-at-2 : goal.bounds-actions-at-2
bounds-actions-at-2 c = simp length-set (omega arith)

pub bounds-actions-at-3 : goal.bounds-actions-at-3
bounds-actions-at-3 c = simp length-set (omega arith)

pub returns : goal.returns
returns c = simp (add-one, add-two)
