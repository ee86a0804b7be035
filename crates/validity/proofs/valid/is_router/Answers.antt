use mathlib.Core.Path.{sym}
use Rattle.validity.proofs.valid.is_router.Goals as goal

pub returns-then-looks_right : goal.returns-then-looks_right
returns-then-looks_right c = sym (c.looks_right.ensures c.if-looks_right.true)

pub returns : goal.returns
returns c = c.each_right.ensures
