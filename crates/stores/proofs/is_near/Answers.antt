use mathlib.Core.Bool.{false≢true}
use Rattle.stores.proofs.is_near.Goals as goal

pub returns-then-place : goal.returns-then-place
returns-then-place c e = absurd (false≢true e)

pub returns-then-is_at : goal.returns-then-is_at
returns-then-is_at c e = c.is_at.ensures c.if-is_at.true

pub returns : goal.returns
returns c e = absurd (false≢true e)
