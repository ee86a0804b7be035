-- `rpc_actions::put_actions` meets its contract: the loop's invariant: the first `i` actions are in the list as entries, from entry `c` on.
-- Assumes nothing.
use Rattle.index.proofs.Kit.{◌*◌, ◌≤◌, ◌≡◌, gather}
use lib.Seq.{sets}
use Rattle.rpc_actions.specs.Actions.{action_at}
use Rattle.rpc_actions.proofs.put_actions.Given as goal

abbrev pub invariant-loop-i : goal.invariant-loop-i
invariant-loop-i l = (l.i ≤ l.n) × (l.list ≡ sets l.initial.list (3 * l.c) (gather l.i (action_at l.actions l.topics)))
