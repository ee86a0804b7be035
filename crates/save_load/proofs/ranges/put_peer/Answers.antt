-- `save_load::ranges::put_peer` meets its contract. Assumes nothing.
use mathlib.Core.Path.{refl}
use native.Mathlib.Omega.{arith}
use lib.ListN.{length-set}
use Rattle.save_load.proofs.ranges.put_peer.Goals as goal

pub bounds-most-1 : goal.bounds-most-1
bounds-most-1 c = simp length-set (omega arith)

pub bounds-most-2 : goal.bounds-most-2
bounds-most-2 c = simp length-set (omega arith)

pub bounds-most-3 : goal.bounds-most-3
bounds-most-3 c = simp length-set (omega arith)

pub shape_of-most : goal.shape_of-most
shape_of-most c = simp length-set

pub returns : goal.returns
returns c = refl
