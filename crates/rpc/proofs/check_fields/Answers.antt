use Rattle.index.proofs.Kit.{refl, ◌∙◌}
use Rattle.fields.proofs.StepLaws.{step_end, step_field, step_torn}
use Rattle.rpc.proofs.CheckLaws.{passing_none, passing_more, passing_bad, passing_all, err_is}
use Rattle.rpc.proofs.check_fields.Goals as goal

pub loop-p-init : goal.loop-p-init
loop-p-init c = rw c.into_iter-p-iterator.ensures.into_iter_gives (record { text = refl; passing = passing_none _ _ _ })

pub returns-in_err-p : goal.returns-in_err-p
returns-in_err-p c =
    let w = c.loop-p.invariant in
    let t = step_torn _ _ _ _ w.text c.next.ensures.steps _ c.in-Some.is _ c.in_err-p.was in
    err_is _ _ c.from_residual.ensures.1 ∙ passing_bad _ _ _ _ w.passing t.within _ t.none _ refl t.at

pub loop-p-preserved : goal.loop-p-preserved
loop-p-preserved c =
    let w = c.loop-p.invariant in
    let t = step_field _ _ _ _ w.text c.next.ensures.steps _ c.in-Some.is _ c.in_ok-p.was in
    record { text = t.text; passing = rw t.goes_on (passing_more _ _ _ _ w.passing t.within _ t.field _ _ refl refl) }

pub returns : goal.returns
returns c =
    let w = c.loop-p.invariant in
    passing_all _ _ _ _ w.passing (step_end _ _ _ _ w.text c.next.ensures.steps c.in-None.is)
