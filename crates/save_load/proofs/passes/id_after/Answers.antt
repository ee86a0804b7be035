use Rattle.save_load.proofs.JudgeLaws.{id_here, id_kept}
use Rattle.save_load.proofs.passes.id_after.Goals as goal

pub returns-then-j-eq0 : goal.returns-then-j-eq0
returns-then-j-eq0 c = id_here _ _ _ c.if-j-eq0.true

pub returns-else-j-eq0 : goal.returns-else-j-eq0
returns-else-j-eq0 c = id_kept _ _ _ c.if-j-eq0.false
