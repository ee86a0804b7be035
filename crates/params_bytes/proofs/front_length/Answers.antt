-- `params_bytes::front_length` meets its contract. Assumes nothing.
use mathlib.Core.Path.{refl}
use Rattle.params_bytes.proofs.WriteLaws.{length_in}
use Rattle.params_bytes.proofs.front_length.Goals as goal

pub returns-in-First : goal.returns-in-First
returns-in-First c = length_in _ c.in-First.is refl

pub returns-in-Second : goal.returns-in-Second
returns-in-Second c = length_in _ c.in-Second.is refl
