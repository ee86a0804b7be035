use mathlib.Core.Path.{◌∙◌}
use native.Mathlib.Omega.{arith}
use Rattle.save_load.proofs.SkimLaws.{skim_none, skim_more, skim_bad, skim_done}
use Rattle.save_load.proofs.passes.skim_numbers.Goals as goal

pub loop-i-init : goal.loop-i-init
loop-i-init c = skim_none _ _ _

pub returns-in_default : goal.returns-in_default
returns-in_default c =
    let l = c.loop-i in
    skim_bad _ _ _ c.read_number.ensures _ (omega arith) c.in_default.is ∙ l.invariant

pub loop-i-preserved : goal.loop-i-preserved
loop-i-preserved c =
    let l = c.loop-i in
    skim_more _ _ _ c.read_number.ensures _ _ _ (omega arith) c.in-Some.is _ (omega arith) ∙ l.invariant

pub returns : goal.returns
returns c = skim_done _ _ _ (omega arith) ∙ c.loop-i.invariant
