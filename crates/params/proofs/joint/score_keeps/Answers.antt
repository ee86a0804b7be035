-- `params::joint::score_keeps`: the rule of codes is that of the numbers. Assumes nothing.
use Rattle.index.proofs.Kit.{arith}
use mathlib.Core.List.{map}
use Rattle.varint.specs.Codes.{number_of}
use Rattle.params.proofs.CodeRules.{sum_out, le_score, score_in, out_small, score_small}
use Rattle.params.proofs.joint.score_keeps.Goals as goal

pub overflow_add-result : goal.overflow_add-result
overflow_add-result c = omega (arith, out_small c.args.codes.now c.requires.1, score_small c.args.codes.now c.requires.1)

pub returns-in-First : goal.returns-in-First
returns-in-First c = score_in (map number_of c.args.codes.now) c.in-First.is _
    (sum_out c.args.codes.now c.requires.1)

pub returns-in-Second : goal.returns-in-Second
returns-in-Second c = score_in (map number_of c.args.codes.now) c.in-Second.is _
    (le_score c.args.codes.now c.requires.1)
