-- `params::joint::rules`: each rule of codes is that of the numbers. Assumes nothing.
use Rattle.index.proofs.Kit.{arith}
use Rattle.params.proofs.CodeRules.{rules_are, out_small}
use Rattle.params.proofs.joint.rules.Goals as goal

pub overflow_mul-result : goal.overflow_mul-result
overflow_mul-result c = omega (arith, out_small c.args.codes.now c.requires.1)

pub returns : goal.returns
returns c = rules_are c.args.codes.now c.requires.1 c.args.edition _ _ c.score_keeps.ensures c.caps.ensures
