-- Demand 3 of the mission, over every list of calls. docs/ARCHITECTURE.md has the mission's words beside each line.
use Rattle.std.specs.Prelude.{None}
use Rattle.std.specs.Prelude.{ℕ, ◌+◌, ◌≤◌, ◌<◌, ◌≡◌, ◌⊎◌, Bool, true, false, not, ◌&&◌, List, ◌∷◌, nat_abs, length}
use Rattle.index.specs.Index.{count}
use Rattle.params.specs.declared.Params.{Params}
use Rattle.limits.specs.Limits.{at}
use Rattle.params.specs.Check.{first_broken}
use Rattle.records.specs.Records.{State, slot_count, param_count, peer_in}
use Rattle.effects.specs.Effects.{is_joined, is_member}
use Rattle.rules.specs.Calls.{heartbeat}
use Rattle.rules.specs.Step.{is_negative, is_candidate}
use Rattle.call_lists.specs.Lists.{Start, Begins, Made, after, answered, outbound}

-- "The list starts from a fresh router with an accepted sheet" (01), or from a loaded one (02, order 8): 147 numbers that pass 9, and the
-- router is made with them
pub record Accepted (start : Start) : Type 0 where
  pub size : length start.params.numbers ≡ param_count
  pub passes : first_broken start.params ≡ None
  pub begins : Begins start

abbrev pub d_lo : Params → ℕ
d_lo params = nat_abs (at params.numbers 0)

abbrev pub d_hi : Params → ℕ
d_hi params = nat_abs (at params.numbers 2)

abbrev pub d_out : Params → ℕ
d_out params = nat_abs (at params.numbers 3)

-- ---- after a list of calls, by slot
-- the direction of the peer in slot s
abbrev pub outbound_at : Start → List Made → ℕ → Bool
outbound_at start calls s = outbound start calls (peer_in (after start calls) s).id

-- the mesh of topic t
module _ (start : Start) (calls : List Made) (t : ℕ) where
  abbrev pub member : ℕ → Bool
  member s = is_member (after start calls) t s

  unfoldable pub members : ℕ
  members = count slot_count member

  unfoldable pub outbound_members : ℕ
  outbound_members = count slot_count (λ s. member s && outbound_at start calls s)

  unfoldable pub inbound_members : ℕ
  inbound_members = count slot_count (λ s. member s && not (outbound_at start calls s))

-- "The pool is the members at that start whose score was zero or more, and all candidates at that start."
-- "A tidy's start is the state handed to it, with the tidy's own time."
abbrev pub InPool : State → ℕ → ℕ → ℕ → Type 0
InPool start time t s = ((is_member start t s ≡ true) × (is_negative start s ≡ false)) ⊎ (is_candidate start time t s ≡ true)

-- what holds after a heartbeat (01's tidy) of topic t at a time, the last of the calls: `before` are the calls before it
pub record Maintained (start : Start) (calls before : List Made) (time t : ℕ) : Type 0 where
  -- "the tidied topic's mesh then holds only peers whose score at that tidy's start was zero or more"
  pub good : (s : ℕ) → s < slot_count → member start calls t s ≡ true → is_negative (after start before) s ≡ false
  -- "it also holds at least D_out outbound peers or every outbound one in the pool"
  pub outs :
      (d_out start.params ≤ outbound_members start calls t) ⊎
      ((s : ℕ) →
      s < slot_count →
      InPool (after start before) time t s →
      outbound_at start calls s ≡ true →
      member start calls t s ≡ true)
  -- "and at least D_lo peers or the whole pool"
  pub enough :
      (d_lo start.params ≤ members start calls t) ⊎
      ((s : ℕ) → s < slot_count → InPool (after start before) time t s → member start calls t s ≡ true)

pub record Holds (start : Start) (calls : List Made) : Type 0 where
  -- "After every such list a joined topic's mesh holds at most D_hi + 2 inbound peers."
  pub inbound :
      (t : ℕ) → is_joined (after start calls) t ≡ true → inbound_members start calls t ≤ d_hi start.params + 2
  -- "If the last call was a tidy answered by 0, .."
  pub maintained :
      (time t ask room : ℕ) (order : List ℕ) (before : List Made) →
      calls ≡ record { call = heartbeat time t ask order; room = room } ∷ before →
      answered start (record { call = heartbeat time t ask order; room = room }) before ≡ 0 →
      Maintained start calls before time t

-- "take every list of the calls [..], in any order, with any arguments, refused and ignored calls included"
abbrev pub Demand3 : Type 0
Demand3 = (start : Start) (calls : List Made) → Accepted start → Holds start calls
