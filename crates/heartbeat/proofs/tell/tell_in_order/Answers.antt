-- `heartbeat::tell::tell_in_order`: an empty set, or the walk.
use mathlib.Core.Path.{sym, ◌∙◌}
use Rattle.mesh.proofs.ActionLaws.{written_none}
use Rattle.heartbeat.proofs.tell.tell_in_order.Goals as goal

pub returns-then-size-eq0 : goal.returns-then-size-eq0
returns-then-size-eq0 c = written_none _ _ _ _ _ _ _ (sym c.size.ensures ∙ c.if-size-eq0.true)
