use Rattle.index.proofs.Auto.{auto}
use Rattle.index.proofs.Kit.{arith, first_more}
use Rattle.index.proofs.Index.{first_out}
use Rattle.params.proofs.CheckLaws.{rule_told}
use Rattle.params.proofs.joint.first_rule.Goals as goal

pub loop-k-init : goal.loop-k-init
loop-k-init c = search auto

pub returns-then-not-holds : goal.returns-then-not-holds
returns-then-not-holds c =
    let l = c.loop-k in
    first_out _ _ _ c.loop-k-test.true l.invariant.1 (rule_told _ _ _ _ _ c.rules.ensures c.loop-k-test.true c.if-not-holds.true)

pub loop-k-preserved : goal.loop-k-preserved
loop-k-preserved c =
    let l = c.loop-k in
    (omega arith, first_more _ _ l.invariant.1 (rule_told _ _ _ _ _ c.rules.ensures c.loop-k-test.true c.if-not-holds.false))

pub returns : goal.returns
returns c = search auto
