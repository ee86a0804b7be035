use Rattle.index.proofs.Kit.{refl, ◌∙◌, arith}
use Rattle.fields.proofs.FieldLaws.{read_placed}
use Rattle.fields.proofs.StepLaws.{step_end, step_field, step_torn}
use Rattle.rpc.proofs.CheckLaws.{counting_none, counting_more, counting_inner, counting_bad, counting_all, inside_each, err_is}
use Rattle.rpc.proofs.check_message.Goals as goal

pub loop-p-init : goal.loop-p-init
loop-p-init g c =
    rw c.into_iter-p-iterator.ensures.into_iter_gives (record { text = refl; counting = counting_none _ _ _ _ c.requires.0 })

pub returns-in_err-p : goal.returns-in_err-p
returns-in_err-p g c =
    let w = c.loop-p.invariant in
    let t = step_torn _ _ _ _ w.text c.next.ensures.steps _ c.in-Some.is _ c.in_err-p.was in
    err_is _ _ c.from_residual.ensures.1 ∙ counting_bad _ _ _ _ _ _ w.counting t.within _ t.none _ refl t.at

pub check_in-requires : goal.check_in-requires
check_in-requires g c =
    let w = c.loop-p.invariant in
    let t = step_field _ _ _ _ w.text c.next.ensures.steps _ c.in-Some.is _ c.in_ok-p.was in
    let q = read_placed _ _ _ _ t.field refl in
    let l = w.counting.low in
    let i = q.low in
    let r = c.requires.1 in
    (q.order, (q.high, omega arith))

pub returns-in_err-m : goal.returns-in_err-m
returns-in_err-m g c =
    let w = c.loop-p.invariant in
    let t = step_field _ _ _ _ w.text c.next.ensures.steps _ c.in-Some.is _ c.in_ok-p.was in
    err_is _ _ c.from_residual-in_err-m.ensures.1
    ∙ counting_inner _ _ _ _ _ _ w.counting t.within _ t.field _ refl _ c.check_in.ensures _ c.in_err-m.was

pub loop-p-preserved : goal.loop-p-preserved
loop-p-preserved g c =
    let w = c.loop-p.invariant in
    let t = step_field _ _ _ _ w.text c.next.ensures.steps _ c.in-Some.is _ c.in_ok-p.was in
    record {
      text = t.text;
      counting = rw t.goes_on
          (counting_more _ _ _ _ _ _ w.counting t.within _ t.field _ refl _ c.check_in.ensures (inside_each _ _ _) _ c.in_ok-m.was);
    }

pub returns : goal.returns
returns g c =
    let w = c.loop-p.invariant in
    counting_all _ _ _ _ _ _ w.counting (step_end _ _ _ _ w.text c.next.ensures.steps c.in-None.is)
