use mathlib.Core.Path.{sym}
use Rattle.index.proofs.Kit.{◌+◌, arith, rules, ◌∙◌, every_more}
use Rattle.index.proofs.Index.{every-loop, every_out}
use Rattle.limits.specs.Limits.{general_count}
use Rattle.limits.proofs.LimitLaws.{limit_in}
use Rattle.limits.proofs.RowLaws.{field_is}
use Rattle.limits.proofs.fields_lie.Goals as goal

pub loop-j-init : goal.loop-j-init
loop-j-init c = search (every-loop, rules)

pub returns-then-not-field_lies : goal.returns-then-not-field_lies
returns-then-not-field_lies c =
    every_out _ _ _ (omega arith)
    (sym (c.field_lies.ensures ∙ field_is c.args.codes.now c.loop-j.j _ c.loop-j-test.true (limit_in _ (general_count + c.loop-j.j) c.limits-table.ensures))
    ∙ c.if-not-field_lies.true)

pub loop-j-preserved : goal.loop-j-preserved
loop-j-preserved c = (
  omega arith,
  every_more _ _ c.loop-j.invariant.1
      (sym (c.field_lies.ensures ∙ field_is c.args.codes.now c.loop-j.j _ c.loop-j-test.true (limit_in _ (general_count + c.loop-j.j) c.limits-table.ensures))
      ∙ c.if-not-field_lies.false),
)

pub returns : goal.returns
returns c = search (every-loop, rules)
