-- `params_bytes::room_for` meets its contract. Assumes nothing.
use mathlib.Core.Path.{refl}
use Rattle.params_bytes.proofs.WriteLaws.{room_in}
use Rattle.params_bytes.proofs.room_for.Goals as goal

pub returns-in-First : goal.returns-in-First
returns-in-First c = room_in _ c.in-First.is refl

pub returns-in-Second : goal.returns-in-Second
returns-in-Second c = room_in _ c.in-Second.is refl
