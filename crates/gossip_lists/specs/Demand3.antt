-- Demand 3 of the mission over every list of all calls, orders 6 and 7 with 01's: the statement of call_lists, word for word, of what such
-- a list leaves.
use Rattle.std.specs.Prelude.{ℕ, ◌+◌, ◌≤◌, ◌<◌, ◌≡◌, ◌⊎◌, Bool, true, false, not, ◌&&◌, List, ◌∷◌}
use Rattle.index.specs.Index.{count}
use Rattle.params.specs.declared.Params.{Params}
use Rattle.records.specs.Records.{State, slot_count, peer_in}
use Rattle.effects.specs.Effects.{is_joined, is_member}
use Rattle.rules.specs.Calls.{heartbeat}
use Rattle.rules.specs.Step.{is_negative}
use Rattle.call_lists.specs.Demand3.{d_lo, d_hi, d_out, InPool}
use Rattle.gossip.specs.Calls.{old}
use Rattle.gossip_lists.specs.Lists.{Start, AcceptedAll, Did, after_all, answered_all}
use Rattle.gossip_lists.specs.Directions.{outbound_all}

-- ---- after a list of calls: 01's state, and by slot the direction of the peer
abbrev pub base_after : Start → List Did → State
base_after start calls = (after_all start calls).base

abbrev pub sheet : Start → Params
sheet start = start.router.params

abbrev pub outbound_at : Start → List Did → ℕ → Bool
outbound_at start calls s = outbound_all start calls (peer_in (base_after start calls) s).id

-- the mesh of topic t
module _ (start : Start) (calls : List Did) (t : ℕ) where
  abbrev pub member : ℕ → Bool
  member s = is_member (base_after start calls) t s

  unfoldable pub members : ℕ
  members = count slot_count member

  unfoldable pub outbound_members : ℕ
  outbound_members = count slot_count (λ s. member s && outbound_at start calls s)

  unfoldable pub inbound_members : ℕ
  inbound_members = count slot_count (λ s. member s && not (outbound_at start calls s))

-- what holds after a heartbeat (01's tidy) of topic t at a time, the last of the calls: `before` are the calls before it
pub record MaintainedAll (start : Start) (calls before : List Did) (time t : ℕ) : Type 0 where
  -- "the tidied topic's mesh then holds only peers whose score at that tidy's start was zero or more"
  pub good : (s : ℕ) → s < slot_count → member start calls t s ≡ true → is_negative (base_after start before) s ≡ false
  -- "it also holds at least D_out outbound peers or every outbound one in the pool"
  pub outs :
      (d_out (sheet start) ≤ outbound_members start calls t) ⊎
      ((s : ℕ) →
      s < slot_count →
      InPool (base_after start before) time t s →
      outbound_at start calls s ≡ true →
      member start calls t s ≡ true)
  -- "and at least D_lo peers or the whole pool"
  pub enough :
      (d_lo (sheet start) ≤ members start calls t) ⊎
      ((s : ℕ) → s < slot_count → InPool (base_after start before) time t s → member start calls t s ≡ true)

pub record HoldsAll (start : Start) (calls : List Did) : Type 0 where
  -- "After every such list a joined topic's mesh holds at most D_hi + 2 inbound peers."
  pub inbound :
      (t : ℕ) → is_joined (base_after start calls) t ≡ true → inbound_members start calls t ≤ d_hi (sheet start) + 2
  -- "If the last call was a tidy answered by 0, .."
  pub maintained :
      (time t ask room : ℕ) (order : List ℕ) (before : List Did) →
      calls ≡ record { call = old (heartbeat time t ask order); room = room } ∷ before →
      answered_all start (record { call = old (heartbeat time t ask order); room = room }) before ≡ 0 →
      MaintainedAll start calls before time t

-- "take every list of the calls [..], in any order, with any arguments, refused and ignored calls included"
abbrev pub Demand3All : Type 0
Demand3All = (start : Start) (calls : List Did) → AcceptedAll start → HoldsAll start calls
