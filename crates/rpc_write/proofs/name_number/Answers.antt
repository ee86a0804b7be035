-- `rpc_write::name_number` meets its contract. Assumes nothing.
use native.Mathlib.Omega.{arith}
use borrow.Author.Tests.{eq-eqb, ne_eqb}
use Rattle.rpc_write.proofs.name_number.Goals as goal

pub returns-then-kind-eq-SUBSCRIPTION : goal.returns-then-kind-eq-SUBSCRIPTION
returns-then-kind-eq-SUBSCRIPTION c = (rw (eq-eqb _ _ c.if-kind-eq-SUBSCRIPTION.true), omega arith)

pub returns-else-kind-eq-SUBSCRIPTION : goal.returns-else-kind-eq-SUBSCRIPTION
returns-else-kind-eq-SUBSCRIPTION c = (rw (ne_eqb _ _ c.if-kind-eq-SUBSCRIPTION.false), omega arith)
