-- `rpc::names_ok` meets its contract. Assumes nothing.
use Rattle.index.proofs.Kit.{◌≤◌, ◌≡◌, true, every}
use Rattle.rpc.specs.Names.{row_ok}
use Rattle.rpc.proofs.names_ok.Given as goal

abbrev pub invariant-loop-k : goal.invariant-loop-k
invariant-loop-k l = (l.k ≤ 8) × (every l.k (row_ok l.names) ≡ true)
