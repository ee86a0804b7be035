use mathlib.Core.Path.{sym, ◌∙◌}
use Rattle.index.proofs.Kit.{◌≡◌, arith, every, true, rules, every_more}
use mir.Facts.{to_z-of_z}
use Rattle.index.proofs.Index.{every-loop, every_out, every_in}
use Rattle.records.specs.Records.{topic_count}
use Rattle.limits.proofs.field_lies.Goals as goal

pub loop-k-init : goal.loop-k-init
loop-k-init c = search (every-loop, rules)

pub returns-then-not-code_lies : goal.returns-then-not-code_lies
returns-then-not-code_lies c =
    let f = c.ranges in
    every_out _ _ _ (omega arith) (sym (rw (to_z-of_z f.low, to_z-of_z f.high) at c.code_lies.ensures) ∙ c.if-not-code_lies.true)

pub loop-k-preserved : goal.loop-k-preserved
loop-k-preserved c = (
  omega arith,
  every_more _ _ c.loop-k.invariant.1 (sym c.code_lies.ensures ∙ c.if-not-code_lies.false),
)

pub returns : goal.returns
returns c =
    let f = c.ranges in
    let l = c.loop-k in
    let e : true ≡ every topic_count _ = every_in _ topic_count l.k (omega arith) (omega arith) l.invariant.1 in
    rw (to_z-of_z f.low, to_z-of_z f.high) at e
