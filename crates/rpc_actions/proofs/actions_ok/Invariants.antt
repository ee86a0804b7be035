-- `rpc_actions::actions_ok` meets its contract: the loop's invariant: the first `i` actions are GRAFTs or PRUNEs for one peer. Assumes
-- nothing.
use Rattle.index.proofs.Kit.{◌≤◌, ◌≡◌, true, every}
use Rattle.rpc_actions.proofs.ActionLaws.{ok_at}
use Rattle.rpc_actions.proofs.actions_ok.Given as goal

abbrev pub invariant-loop-i : goal.invariant-loop-i
invariant-loop-i l = (l.i ≤ l.n) × (every l.i (ok_at l.actions) ≡ true)
