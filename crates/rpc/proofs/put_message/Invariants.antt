-- `rpc::put_message` meets its contract: the entries up to the iterator's place are in the list, each kind at its own place; and they are no
-- more than the bytes. Assumes nothing.
use Rattle.index.proofs.Kit.{◌+◌, ◌≤◌, ◌≡◌}
use Prim.Native.Nat.{suc}
use lib.ListN.{length}
use Rattle.rpc.specs.Messages.{inside}
use Rattle.rpc.specs.Passes.{total}
use Rattle.rpc.specs.Tables.{known_by}
use Rattle.rpc.proofs.ListLaws.{Gathering}
use Rattle.rpc.proofs.put_message.Given as goal

abbrev pub invariant-loop-p : goal.invariant-loop-p
invariant-loop-p g l =
    record {
      text : l.p-iterator.s.now ≡ l.s;
      shape : length l.list ≡ length l.initial.list;
      high : l.p-iterator.at ≤ length l.s;
      few : total l.m + l.at ≤ total l.initial.m + l.p-iterator.at;
      gathering :
          Gathering (known_by l.t) l.all (inside (suc g.L.Level.depth) g.L.Level.KIND l.s) l.s l.at
          l.p-iterator.at l.initial.m l.m l.initial.list l.list;
    }
