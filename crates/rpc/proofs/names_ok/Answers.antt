use mathlib.Core.Path.{sym, ◌∙◌}
use Rattle.index.proofs.Kit.{arith, every_none, every_more}
use Rattle.rpc.proofs.TopicLaws.{names_bad, names_good}
use Rattle.rpc.proofs.names_ok.Goals as goal

pub loop-k-init : goal.loop-k-init
loop-k-init c = (omega arith, every_none _)

pub returns-then-not-row_ok : goal.returns-then-not-row_ok
returns-then-not-row_ok c = names_bad _ _ c.loop-k-test.true (sym c.row_ok.ensures ∙ c.if-not-row_ok.true)

pub loop-k-preserved : goal.loop-k-preserved
loop-k-preserved c = (omega arith, every_more _ _ c.loop-k.invariant.1 (sym c.row_ok.ensures ∙ c.if-not-row_ok.false))

pub returns : goal.returns
returns c = search names_good
