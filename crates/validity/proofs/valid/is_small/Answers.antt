use Prim.Native.Nat.{ℕ}
use mathlib.Core.Path.{◌≡◌, ap, sym, ◌∙◌}
use native.Mathlib.Omega.{arith}
use Rattle.records.specs.declared.TopicRecord.{TopicRecord}
use Rattle.validity.proofs.OrderLaws.{union_none, union_more, small_all}
use Rattle.validity.proofs.valid.is_small.Goals as goal

pub returns-then-not-ends_near : goal.returns-then-not-ends_near
returns-then-not-ends_near c e = let z : ◌≡◌ {A = ℕ} 0 1 = cc in absurd (omega arith)

pub loop-t-init : goal.loop-t-init
loop-t-init c = (omega arith, union_none _, union_none _, union_none _)

pub loop-t-preserved : goal.loop-t-preserved
loop-t-preserved c =
    let l = c.loop-t in
    let e = c.load_topic-r.ensures.0 in (
      omega arith,
      union_more _ _ _ _ l.invariant.1 (ap (λ (r : TopicRecord). r.p4) e),
      union_more _ _ _ _ l.invariant.2 (ap (λ (r : TopicRecord). r.p3b) e),
      union_more _ _ _ _ l.invariant.3 (ap (λ (r : TopicRecord). r.subscribed) e),
    )

pub returns : goal.returns
returns c e =
    let l = c.loop-t in
    small_all _ _ _ _ _ _ (omega arith) (omega arith) (sym c.ends_near.ensures ∙ c.if-not-ends_near.false)
    l.invariant.1 l.invariant.2 l.invariant.3 e
