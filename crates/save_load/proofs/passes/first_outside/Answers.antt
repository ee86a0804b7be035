use mathlib.Core.Path.{sym, ◌∙◌}
use native.Mathlib.Omega.{arith}
use Rattle.save_load.proofs.JudgeLaws.{going_none, going_done, going_read, going_out, going_more}
use Rattle.save_load.proofs.passes.first_outside.Goals as goal

pub loop-i-init : goal.loop-i-init
loop-i-init c = going_none _ _ _ _ c.requires

pub returns-in_default : goal.returns-in_default
returns-in_default c =
    let l = c.loop-i in
    absurd (going_read _ _ _ _ _ _ _ l.invariant (omega arith) _ c.read_number.ensures c.in_default.is)

pub returns-then-is_outside : goal.returns-then-is_outside
returns-then-is_outside c =
    let l = c.loop-i in
    going_out _ _ _ _ _ _ _ l.invariant (omega arith) _ c.read_number.ensures _ _
    c.in-Some.is
    (sym c.is_outside.ensures ∙ c.if-is_outside.true)

pub loop-i-preserved : goal.loop-i-preserved
loop-i-preserved c =
    let l = c.loop-i in
    going_more _ _ _ _ _ _ _ l.invariant (omega arith) _ c.read_number.ensures _ _
    c.in-Some.is
    (sym c.is_outside.ensures ∙ c.if-is_outside.false) _ c.id_after-last.ensures

pub returns : goal.returns
returns c = let l = c.loop-i in going_done _ _ _ _ _ _ _ l.invariant (omega arith)
