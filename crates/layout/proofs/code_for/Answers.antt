use Rattle.layout.proofs.ParamLaws.{below_zero, below_more, above_code}
use Rattle.layout.proofs.code_for.Goals as goal

pub returns-then-m-eq0 : goal.returns-then-m-eq0
returns-then-m-eq0 c = below_zero _ _ c.if-b.true c.if-m-eq0.true

pub returns-then-b : goal.returns-then-b
returns-then-b c = below_more _ _ c.if-b.true

pub returns : goal.returns
returns c = above_code _ _ c.if-b.false
