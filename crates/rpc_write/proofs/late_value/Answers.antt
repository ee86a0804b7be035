-- `rpc_write::late_value` meets its contract. Assumes nothing.
use native.Mathlib.Omega.{arith}
use borrow.Author.Tests.{eq-eqb, ne_eqb}
use Rattle.rpc_write.proofs.late_value.Goals as goal

pub returns-then-kind-eq-PRUNE : goal.returns-then-kind-eq-PRUNE
returns-then-kind-eq-PRUNE c = (rw (eq-eqb _ _ c.if-kind-eq-PRUNE.true), omega arith)

pub returns-else-kind-eq-PRUNE : goal.returns-else-kind-eq-PRUNE
returns-else-kind-eq-PRUNE c = (rw (ne_eqb _ _ c.if-kind-eq-PRUNE.false), omega arith)
