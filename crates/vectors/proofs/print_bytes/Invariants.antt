-- `vectors::print_bytes` is safe and ends. Assumes nothing.
use Prim.Native.Nat.{◌≤◌}
use Rattle.vectors.proofs.print_bytes.Given as goal

abbrev pub invariant-loop-i : goal.invariant-loop-i
invariant-loop-i g l = l.i ≤ 10
