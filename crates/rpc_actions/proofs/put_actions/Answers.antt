use Rattle.index.proofs.Kit.{arith, refl}
use Rattle.rpc_actions.proofs.ActionLaws.{run_none, action_more, run_all}
use Rattle.rpc_actions.specs.Actions.{action_at}
use Rattle.rpc_actions.proofs.put_actions.Goals as goal

pub loop-i-init : goal.loop-i-init
loop-i-init c = let a = c.args in (omega arith, run_none (action_at a.actions.now a.topics.now) (λ i. refl) _ a.c)

pub loop-i-preserved : goal.loop-i-preserved
loop-i-preserved c =
    let l = c.loop-i in
    let a = c.args in
    let k = c.from-kind.ensures in
    let t = c.from-third.ensures in
    let x = c.if_notice.ensures in
    let y = c.if_notice-in-loop-i.ensures in
    (omega arith, action_more a.actions.now a.topics.now _ a.c l.i _ _ _ _ _ _ l.invariant.1 k t x y c.put_triple.ensures)

pub returns : goal.returns
returns c = let l = c.loop-i in let a = c.args in run_all
    (action_at a.actions.now a.topics.now) (λ i. refl) _ a.c _ _ _ l.invariant.0 c.loop-i-test.false l.invariant.1
