use native.Mathlib.Omega.{arith}
use Rattle.validity.specs.Valid.{slot_ok}
use Rattle.forms.proofs.test.slot_ok.Goals as goal

pub peer_ok-peer-requires : goal.peer_ok-peer-requires
peer_ok-peer-requires c = let k = c.load_clock-clock.ensures in let m = c.requires.2 in omega (arith, k, m)

pub returns : goal.returns
unfolding slot_ok
returns c = cc
