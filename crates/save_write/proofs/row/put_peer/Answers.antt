-- `save_write::row::put_peer` meets its contract. Assumes nothing.
use Prim.Native.Nat.{ℕ}
use mathlib.Core.Path.{ap}
use native.Mathlib.Omega.{arith}
use lib.ListN.{set, length-set}
use Rattle.save_write.proofs.row.put_peer.Goals as goal

pub bounds-row-1 : goal.bounds-row-1
bounds-row-1 c = simp length-set (omega arith)

pub bounds-row-2 : goal.bounds-row-2
bounds-row-2 c = simp length-set (omega arith)

pub bounds-row-3 : goal.bounds-row-3
bounds-row-3 c = simp length-set (omega arith)

pub shape_of-row : goal.shape_of-row
shape_of-row c = simp length-set

pub returns : goal.returns
returns c =
    ap
    (λ (n : ℕ). set (set (set (set c.args.row.now 0 c.args.p.id) 1 n) 2 c.args.p.p5) 3 c.args.p.p7)
    c.left_of.ensures
