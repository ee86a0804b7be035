use Rattle.index.proofs.Kit.{refl}
use Rattle.fields.proofs.StepLaws.{step_end, step_field, step_torn}
use Rattle.rpc.proofs.HeldLaws.{holding_none, holding_more, holding_bad, holding_all}
use Rattle.rpc.proofs.held_in.Goals as goal

pub loop-p-init : goal.loop-p-init
loop-p-init c = rw c.into_iter-p-iterator.ensures.into_iter_gives (record { text = refl; holding = holding_none _ _ _ })

pub returns-in_default : goal.returns-in_default
returns-in_default c =
    let w = c.loop-p.invariant in
    let t = step_torn _ _ _ _ w.text c.next.ensures.steps _ c.in-Some.is _ c.in_default.is in
    holding_bad _ _ _ _ _ w.holding t.within _ t.none refl

pub loop-p-preserved : goal.loop-p-preserved
loop-p-preserved c =
    let w = c.loop-p.invariant in
    let t = step_field _ _ _ _ w.text c.next.ensures.steps _ c.in-Some.is _ c.in-Ok.is in
    record { text = t.text; holding = rw t.goes_on (holding_more _ _ _ _ _ w.holding t.within _ t.field _ _ refl c.keep-held.ensures) }

pub returns : goal.returns
returns c =
    let w = c.loop-p.invariant in
    holding_all _ _ _ _ _ w.holding (step_end _ _ _ _ w.text c.next.ensures.steps c.in-None.is)
