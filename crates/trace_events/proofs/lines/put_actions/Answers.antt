use mathlib.Core.Path.{refl, ◌∙◌}
use native.Mathlib.Omega.{arith}
use Rattle.trace_events.proofs.LineLaws.{actions_none, actions_more, actions_all}
use Rattle.trace_events.proofs.lines.put_actions.Goals as goal

pub loop-i-init : goal.loop-i-init
loop-i-init c = (omega arith, refl, omega arith, actions_none _ _ _)

pub loop-i-preserved : goal.loop-i-preserved
loop-i-preserved c =
    let l = c.loop-i in (
      omega arith,
      c.put_action-k.auto.out ∙ l.invariant.1,
      omega arith,
      actions_more _ l.i _ c.args.out.now
          _ _ _ _ l.invariant.3 c.put_action-k.ensures.0,
    )

pub returns : goal.returns
returns c =
    let l = c.loop-i in
    (actions_all _ _ _ _ _ _ _ l.invariant.0 c.loop-i-test.false l.invariant.3, omega arith)
