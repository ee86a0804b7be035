-- `rpc::check_fields` meets its contract. Assumes nothing.
use Rattle.index.proofs.Kit.{◌≡◌}
use Rattle.fields.specs.Walk.{itself}
use Rattle.rpc.proofs.CheckLaws.{Passing}
use Rattle.rpc.proofs.check_fields.Given as goal

abbrev pub invariant-loop-p : goal.invariant-loop-p
invariant-loop-p l = record { text : l.p-iterator.s.now ≡ l.s; passing : Passing itself l.s l.at l.p-iterator.at }
