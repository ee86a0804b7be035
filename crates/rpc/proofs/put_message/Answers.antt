use Rattle.index.proofs.Kit.{refl, ◌∙◌, arith}
use Rattle.fields.proofs.FieldLaws.{read_placed}
use Rattle.fields.proofs.StepLaws.{step_end, step_field, step_torn}
use Rattle.rpc.proofs.ListLaws.{gathering_none, gathering_more, gathering_bad, gathering_all}
use Rattle.rpc.proofs.put_message.Goals as goal

pub loop-p-init : goal.loop-p-init
loop-p-init g c =
    rw c.into_iter-p-iterator.ensures.into_iter_gives
    (record {
      text = refl;
      shape = refl;
      high = c.requires.within.0;
      few = omega arith;
      gathering = gathering_none _ _ _ _ _ _ _;
    })

pub returns-in_default : goal.returns-in_default
returns-in_default g c =
    let w = c.loop-p.invariant in
    let t = step_torn _ _ _ _ w.text c.next.ensures.steps _ c.in-Some.is _ c.in_default.is in
    let h = w.high in
    let f = w.few in
    (gathering_bad _ _ _ _ _ _ _ _ _ _ w.gathering t.within _ t.none refl, omega arith)

pub put_in-m-requires-clause-within : goal.put_in-m-requires-clause-within
put_in-m-requires-clause-within g c =
    let w = c.loop-p.invariant in
    let t = step_field _ _ _ _ w.text c.next.ensures.steps _ c.in-Some.is _ c.in-Ok.is in
    let q = read_placed _ _ _ _ t.field refl in
    let f = w.few in
    let i = q.low in
    let r = c.requires.within.1 in
    (q.order, (q.high, omega arith))

pub loop-p-preserved : goal.loop-p-preserved
loop-p-preserved g c =
    let w = c.loop-p.invariant in
    let t = step_field _ _ _ _ w.text c.next.ensures.steps _ c.in-Some.is _ c.in-Ok.is in
    let q = read_placed _ _ _ _ t.field refl in
    let o = c.put_in-m in
    let i = q.low in
    let f = w.few in
    let b = o.ensures.1 in
    rw t.goes_on (record {
      text = t.text;
      shape = o.auto.list ∙ w.shape;
      high = q.high;
      few = omega arith;
      gathering = gathering_more _ _ _ _ _ _ _ _ _ _ w.gathering t.within _ t.field _ _ _ refl o.ensures.0;
    })

pub returns : goal.returns
returns g c =
    let w = c.loop-p.invariant in
    let h = w.high in
    let f = w.few in
    (gathering_all _ _ _ _ _ _ _ _ _ _ w.gathering (step_end _ _ _ _ w.text c.next.ensures.steps c.in-None.is), omega arith)
