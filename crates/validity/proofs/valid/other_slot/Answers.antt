use native.Mathlib.Omega.{arith}
use Rattle.validity.specs.Valid.{slot_ok}
use Rattle.validity.proofs.valid.other_slot.Goals as goal

pub peer_ok-peer-requires : goal.peer_ok-peer-requires
unfolding slot_ok
peer_ok-peer-requires c = omega (arith, c.load_clock-clock.ensures, c.requires.1.1)

pub returns : goal.returns
unfolding slot_ok
returns c = cc
