use mathlib.Core.Path.{◌∙◌}
use Rattle.index.proofs.Kit.{arith, rules, sym, every_more}
use lib.ListN.{get_or}
use Rattle.index.proofs.Index.{every-loop, every_out}
use Rattle.varint.specs.Codes.{number_of}
use Rattle.limits.proofs.FieldLaws.{code_in_lem}
use Rattle.limits.proofs.LimitLaws.{general_field, limit_in, lies_at}
use Rattle.limits.proofs.general_lie.Goals as goal

pub loop-i-init : goal.loop-i-init
loop-i-init c = search (every-loop, rules)

pub returns-then-not-code_lies : goal.returns-then-not-code_lies
returns-then-not-code_lies c =
    let e = code_in_lem c.args.codes.now c.loop-i.i _
    (lies_at (number_of (get_or c.args.codes.now c.loop-i.i 0)) c.loop-i.i c.loop-i.i _ _ (limit_in _ c.loop-i.i c.limits-table.ensures)
    (sym (general_field c.loop-i.i c.loop-i-test.true)) c.code_lies.ensures) in
    every_out _ _ _ (omega arith) (sym e ∙ c.if-not-code_lies.true)

pub loop-i-preserved : goal.loop-i-preserved
loop-i-preserved c =
    let e = code_in_lem c.args.codes.now c.loop-i.i _
    (lies_at (number_of (get_or c.args.codes.now c.loop-i.i 0)) c.loop-i.i c.loop-i.i _ _ (limit_in _ c.loop-i.i c.limits-table.ensures)
    (sym (general_field c.loop-i.i c.loop-i-test.true)) c.code_lies.ensures) in (
      omega arith,
      every_more _ _ c.loop-i.invariant.1
          (sym e ∙ c.if-not-code_lies.false),
    )

pub returns : goal.returns
returns c = search (every-loop, rules)
