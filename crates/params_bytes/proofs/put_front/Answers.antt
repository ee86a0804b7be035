-- `params_bytes::put_front` meets its contract. Assumes nothing.
use native.Mathlib.Omega.{arith}
use mathlib.Core.Path.{refl}
use lib.ListN.{length-set}
use Rattle.params_bytes.proofs.WriteLaws.{front_in, room_second}
use Rattle.params_bytes.proofs.put_front.Goals as goal

pub bounds-buf-0 : goal.bounds-buf-0
bounds-buf-0 c = omega (arith, room_second c.in-Second.is _ c.requires)

pub bounds-buf-1 : goal.bounds-buf-1
bounds-buf-1 c = simp length-set (omega (arith, room_second c.in-Second.is _ c.requires))

pub returns-in-First : goal.returns-in-First
returns-in-First c = front_in _ _ _ c.in-First.is (refl, refl)

pub shape_of-buf : goal.shape_of-buf
shape_of-buf c = simp length-set

pub returns-in-Second : goal.returns-in-Second
returns-in-Second c = front_in _ _ _ c.in-Second.is (refl, refl)
