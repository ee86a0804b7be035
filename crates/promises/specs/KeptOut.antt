-- "thrown out at once and kept out": over every list of calls, whom a backoff keeps out of a mesh. No member's backoff runs, nobody is told
-- GRAFT before a second after his backoff, and who was told PRUNE, or told it us, is no member before that PRUNE's time is over, though he
-- disconnect and return in between.
use Rattle.std.specs.Prelude.{Option, Some, None}
use Rattle.std.specs.Prelude.{ℕ, ◌+◌, ◌≤◌, ◌<◌, max, min, ◌≡◌, ◌≢◌, ◌⊎◌, true, cond, ◌&&◌, List, [], ◌∷◌, map, eqb, ltb, nat_abs}
use Rattle.params.specs.declared.Params.{Params}
use Rattle.limits.specs.Limits.{at}
use Rattle.records.specs.Records.{State, slot_count, topic_count, place, peer_in, topic_in}
use Rattle.layout.specs.View.{state_of}
use Rattle.effects.specs.Effects.{is_member, end_after}
use Rattle.lookup.specs.Find.{find_retained}
use Rattle.rules.specs.Reply.{Reply, number_of}
use Rattle.rules.specs.Calls.{Call, connect, disconnect, join, leave, subscribe, unsubscribe, graft, prune, deliver, rate, heartbeat, decay}
use Rattle.rules.specs.Calls.{score}
use Rattle.rules.specs.Step.{step}
use Rattle.call_lists.specs.Lists.{Start, Made, after}
use Rattle.call_lists.specs.Demand3.{Accepted}
use Rattle.call_lists.specs.Played.{Called, made, Played}
use Rattle.promises.specs.Ends.{end_in}
use Rattle.promises.specs.Told.{times}

-- "the sheet's prune [..] backoff", and unsubscribe backoff, in seconds
abbrev pub prune_seconds : Params → ℕ
prune_seconds params = nat_abs (at params.numbers 5)

abbrev pub leave_seconds : Params → ℕ
leave_seconds params = nat_abs (at params.numbers 6)

-- a PRUNE that goes to a peer: until when, from the call and its reply
abbrev pub told : ℕ → ℕ → Reply → ℕ → ℕ → ℕ → ℕ
told time seconds r u id t = cond (eqb u t && ltb 0 (times 2 id r.actions)) (end_after time seconds) 0

-- until when a call and its reply shut topic t to the peer with this id
unfoldable pub shut_by : Params → Call → Reply → ℕ → ℕ → ℕ
shut_by params (connect time p groups flags name) r id t = 0
shut_by params (disconnect time p) r id t = 0
shut_by params (join time u) r id t = 0
shut_by params (leave time u) r id t = told time (leave_seconds params) r u id t
shut_by params (subscribe time p u) r id t = 0
shut_by params (unsubscribe time p u) r id t = 0
shut_by params (graft time p u) r id t = told time (prune_seconds params) r u id t
-- PRUNE in: "now + given seconds (0 means prune backoff; above 3600 counts as 3600)"
shut_by params (prune time p u seconds) r id t =
    cond (eqb u t && (eqb p id && eqb (number_of r.answer) 0))
    (end_after time (cond (eqb seconds 0) (prune_seconds params) (min seconds 3600)))
    0
shut_by params (deliver time p u kind) r id t = 0
shut_by params (rate time p p5) r id t = 0
shut_by params (heartbeat time u ask order) r id t = told time (prune_seconds params) r u id t
shut_by params (decay time) r id t = 0
shut_by params (score time p) r id t = 0

-- what a loaded router remembers of a peer, and a fresh one of nobody: its record's end (02, order 8)
abbrev pub shut_at_start : State → ℕ → Option ℕ → ℕ
shut_at_start st t (Some s) = end_in st s t
shut_at_start st t None = 0

-- the latest of these ends in a list of calls, and of what the router began with
unfoldable pub shut_until : Start → List Made → ℕ → ℕ → ℕ
shut_until start [] id t = shut_at_start start.state t (find_retained start.state id)
shut_until start (c ∷ before) id t =
    max (shut_until start before id t) (shut_by start.params c.call (step (after start before) c.call c.room) id t)

pub record KeptOutOf (start : Start) (calls : List Made) (s t : ℕ) : Type 0 where
  -- the backoff of a member ended when it came in, or before, and it came in at the clock, or before
  pub over : end_in (after start calls) s t ≤ (topic_in (after start calls) (place s t)).graft
  pub since : (topic_in (after start calls) (place s t)).graft ≤ (after start calls).clock
  -- every PRUNE between us and this peer, in this topic, is over, and what a load remembered of the time before it
  pub prunes : shut_until start calls (peer_in (after start calls) s).id t ≤ (after start calls).clock

pub record KeptOutAfter (start : Start) (calls : List Made) : Type 0 where
  pub members :
      (s t : ℕ) → s < slot_count → t < topic_count → is_member (after start calls) t s ≡ true → KeptOutOf start calls s t
  -- a heartbeat after these calls tells GRAFT only to whom 02's order 3 allows: "now ≥ backoff end + 1000 ms, or an end of 0 (never set)"
  pub grafts :
      (time t ask room : ℕ) (order : List ℕ) (s : ℕ) →
      s < slot_count →
      (peer_in (after start calls) s).status ≡ 1 →
      times 1 (peer_in (after start calls) s).id (step (after start calls) (heartbeat time t ask order) room).actions ≢ 0 →
      (end_in (after start calls) s t ≡ 0) ⊎ (end_in (after start calls) s t + 1000 ≤ time)

abbrev pub KeptOut : Type 0
KeptOut = (start : Start) (calls : List Made) → Accepted start → KeptOutAfter start calls

-- the same of the program's calls, one after the other on one table, as history's `Agrees` says demand 3 of them
pub record ProgramKeeps (start : Start) (calls : List Called) (table : List ℕ) : Type 0 where
  pub state : state_of table ≡ after start (map made calls)
  pub out : KeptOutAfter start (map made calls)

abbrev pub ProgramKeptOut : Type 0
ProgramKeptOut =
    (start : Start) (calls : List Called) (table : List ℕ) →
    Accepted start →
    Played start calls table →
    ProgramKeeps start calls table
