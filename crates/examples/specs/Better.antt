-- A better score never loses the place (02, order 13): thirteen inbound members, one more than D_hi, of which the one drawn last has points
-- of the host's, or none.
use Rattle.std.specs.Prelude.{ℕ, ◌≡◌, Bool, true, false, set}
use Rattle.records.specs.Records.{State, slot_count}
use Rattle.effects.specs.Effects.{on_peer, with_p5, is_member}
use Rattle.sets.specs.Sets.{ascending}
use Rattle.rules.specs.Calls.{heartbeat}
use Rattle.rules.specs.Step.{effect}
use Rattle.examples.specs.Table.{crowd}

-- the thirteen, with w5 1 (parameter 13, its code 2), the last with a P5 of this code
unfoldable pub rated : ℕ → State
rated code =
    on_peer
    (record {
      clock = (crowd 13 0 0).clock;
      joined = (crowd 13 0 0).joined;
      codes = set (crowd 13 0 0).codes 13 2;
      setup = (crowd 13 0 0).setup;
      peers = (crowd 13 0 0).peers;
      topics = (crowd 13 0 0).topics;
    })
    12
    (λ p. with_p5 p code)

-- whether it is a member after a heartbeat drawn by slot
unfoldable pub stays : ℕ → Bool
stays code = is_member (effect (rated code) (heartbeat 0 0 0 (ascending 0 slot_count))).state 0 12

pub record Better : Type 0 where
  -- with no points it is cut, with a millionth of a point it is one of the best, and with more it stays so
  pub without : stays 0 ≡ false
  pub with : stays 2 ≡ true
  pub more : stays 2000000 ≡ true
  -- with less than the others it is negative, and out
  pub less : stays 1 ≡ false
