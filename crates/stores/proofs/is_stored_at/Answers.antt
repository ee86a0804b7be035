-- `stores::is_stored_at`: near the hint, or anywhere.
use mathlib.Core.Path.{sym, ◌∙◌}
use Rattle.stores.proofs.ListLaws.{place_is}
use Rattle.stores.proofs.is_stored_at.Goals as goal

pub returns-then-is_near : goal.returns-then-is_near
returns-then-is_near c = c.if-is_near.true ∙ sym (c.is_near.ensures c.if-is_near.true)

pub returns-else-is_near : goal.returns-else-is_near
returns-else-is_near c = c.is_some.ensures ∙ place_is _ _ c.find.ensures
