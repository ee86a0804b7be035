-- P7: "backoff running (now < end), PRUNE and P7 + 1000". A GRAFT in during a backoff raises it, and nothing else does.
use Rattle.std.specs.Prelude.{ℕ, ◌+◌, ◌≤◌, ◌<◌, min, ◌≡◌, ◌≢◌, ◌⊎◌, false, List}
use Rattle.params.specs.declared.Params.{Params}
use Rattle.records.specs.Records.{State, slot_count, peer_in, joined_in}
use Rattle.effects.specs.Effects.{is_member}
use Rattle.rules.specs.Calls.{Call, graft}
use Rattle.rules.specs.Step.{step}
use Rattle.call_lists.specs.Lists.{Start, Made, after}
use Rattle.call_lists.specs.Demand3.{Accepted}
use Rattle.promises.specs.Ends.{end_in}
use Rattle.promises.specs.Numbers.{Admitted}
use Rattle.promises.specs.Ignored.{Graylisted}

-- "GRAFT in, first that holds: not joined 11; graylisted 11; already member, done; explicit, PRUNE; backoff running (now < end)"
pub record TooEarly (params : Params) (st : State) (time t s : ℕ) : Type 0 where
  pub connected : (peer_in st s).status ≡ 1
  pub joined : joined_in st t ≡ 1
  pub heard : Graylisted params st s → ⊥
  pub out : is_member st t s ≡ false
  pub plain : (peer_in st s).explicit ≢ 1
  pub runs : time < end_in st s t

-- the P7 counter of slot s
abbrev pub p7_in : State → ℕ → ℕ
p7_in st s = (peer_in st s).p7

pub record Penalty (params : Params) (st : State) (s : ℕ) : Type 0 where
  -- in thousandths; "P4 and P7 stop at 10^6"
  pub rises :
      (time t room : ℕ) →
      Admitted st (graft time (peer_in st s).id t) room →
      TooEarly params st time t s →
      p7_in (step st (graft time (peer_in st s).id t) room).state s ≡ min (p7_in st s + 1000) 1000000
  -- any call that leaves it higher is such a GRAFT of this peer
  pub only :
      (c : Call) (room : ℕ) →
      (p7_in (step st c room).state s ≤ p7_in st s)
      ⊎ ((time : ℕ) × (t : ℕ) × (c ≡ graft time (peer_in st s).id t) × TooEarly params st time t s)

abbrev pub P7Rises : Type 0
P7Rises =
    (start : Start) (calls : List Made) →
    Accepted start →
    (s : ℕ) →
    s < slot_count →
    Penalty start.params (after start calls) s
