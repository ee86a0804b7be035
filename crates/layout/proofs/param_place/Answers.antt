use Rattle.layout.proofs.ParamLaws.{at_general, at_topic}
use native.Mathlib.Omega.{arith}
use Rattle.layout.proofs.param_place.Goals as goal

pub returns-then-i-lt19 : goal.returns-then-i-lt19
returns-then-i-lt19 c = at_general c.args.i c.if-i-lt19.true

pub returns-else-i-lt19 : goal.returns-else-i-lt19
returns-else-i-lt19 c = at_topic c.args.i c.requires (let g = c.if-i-lt19.false in omega arith)
