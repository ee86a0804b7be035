use Prim.Native.Nat.{◌+◌, ◌-◌}
use native.Mathlib.Omega.{arith}
use Rattle.index.proofs.Flags.{leb_same}
use Rattle.validity.proofs.valid.sum_at_most.Goals as goal

pub returns-then-a-c : goal.returns-then-a-c
returns-then-a-c c = leb_same c.args.b (c.args.c - c.args.a) (c.args.a + c.args.b)
    c.args.c (λ h. omega arith) (λ h. omega arith)

pub returns-else-a-c : goal.returns-else-a-c
returns-else-a-c c = leb_same c.args.a c.args.c (c.args.a + c.args.b) c.args.c (λ h. omega arith) (λ h. omega arith)
