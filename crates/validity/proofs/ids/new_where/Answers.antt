use mathlib.Core.Path.{◌∙◌}
use Rattle.validity.proofs.ids.new_where.Goals as goal

pub returns-then-not-known : goal.returns-then-not-known
returns-then-not-known c = rw c.if-not-known.true

pub returns : goal.returns
returns c = c.new_id.ensures ∙ rw c.if-not-known.false
