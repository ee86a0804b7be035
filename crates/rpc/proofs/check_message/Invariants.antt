-- `rpc::check_message` meets its contract: up to the iterator's place no field is broken, and `m` counts the entries there. Assumes nothing.
use Rattle.index.proofs.Kit.{◌≡◌}
use Prim.Native.Nat.{suc}
use Rattle.rpc.specs.Messages.{inside}
use Rattle.rpc.proofs.CheckLaws.{Counting}
use Rattle.rpc.proofs.check_message.Given as goal

abbrev pub invariant-loop-p : goal.invariant-loop-p
invariant-loop-p g l =
    record {
      text : l.p-iterator.s.now ≡ l.s;
      counting : Counting (inside (suc g.L.Level.depth) g.L.Level.KIND l.s) l.s l.at l.p-iterator.at l.initial.m l.m;
    }
