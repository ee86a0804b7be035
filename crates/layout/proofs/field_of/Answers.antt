use Rattle.layout.proofs.ParamLaws.{field_general, field_topic}
use Rattle.layout.proofs.field_of.Goals as goal

pub returns-then-i-lt19 : goal.returns-then-i-lt19
returns-then-i-lt19 c = field_general _ c.if-i-lt19.true

pub returns-else-i-lt19 : goal.returns-else-i-lt19
returns-else-i-lt19 c = field_topic _ c.if-i-lt19.false
