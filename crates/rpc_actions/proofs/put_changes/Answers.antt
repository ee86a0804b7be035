use Rattle.index.proofs.Kit.{arith, refl}
use Rattle.rpc_actions.proofs.ActionLaws.{run_none, change_more, run_all}
use Rattle.rpc_actions.specs.Actions.{change_at}
use Rattle.rpc_actions.proofs.put_changes.Goals as goal

pub loop-i-init : goal.loop-i-init
loop-i-init c = (omega arith, run_none (change_at c.args.changes.now) (λ i. refl) _ 0)

pub loop-i-preserved : goal.loop-i-preserved
loop-i-preserved c = let l = c.loop-i in (
  omega arith,
  change_more c.args.changes.now _ l.i _ _
      l.invariant.1 c.put_triple.ensures,
)

pub returns : goal.returns
returns c = let l = c.loop-i in run_all (change_at c.args.changes.now) (λ i. refl) _ 0 _ _ _
    l.invariant.0 c.loop-i-test.false l.invariant.1
