-- `rpc_actions::put_changes` meets its contract. Assumes nothing.
use Rattle.index.proofs.Kit.{◌*◌, ◌≤◌, ◌≡◌, gather}
use lib.Seq.{sets}
use Rattle.rpc_actions.specs.Actions.{change_at}
use Rattle.rpc_actions.proofs.put_changes.Given as goal

abbrev pub invariant-loop-i : goal.invariant-loop-i
invariant-loop-i l = (l.i ≤ l.c) × (l.list ≡ sets l.initial.list (3 * 0) (gather l.i (change_at l.changes)))
