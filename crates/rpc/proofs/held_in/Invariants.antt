-- `rpc::held_in` meets its contract. Assumes nothing.
use Rattle.index.proofs.Kit.{◌≡◌}
use Rattle.rpc.proofs.HeldLaws.{Holding}
use Rattle.rpc.proofs.held_in.Given as goal

abbrev pub invariant-loop-p : goal.invariant-loop-p
invariant-loop-p l = record { text : l.p-iterator.s.now ≡ l.s; holding : Holding l.kind l.s l.at l.p-iterator.at l.held }
