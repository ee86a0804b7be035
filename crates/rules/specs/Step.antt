-- What each call answers and leaves: 01's order of tests once (12, 2, 8, 1, then 6, 7, 3, 4, 5, 11), then the effects case by case.
use Rattle.std.specs.Prelude.{Option, Some, None, Result, Ok, Err}
use Rattle.std.specs.Prelude.{ℕ, ◌+◌, ◌*◌, min, Bool, cond, not, ◌&&◌, ◌||◌, List, [], ◌∷◌, map, get_or, eqb, leb, pos, nat_abs, ◌+ℤ◌, ◌*ℤ◌}
use Rattle.std.specs.Int.Signed.{lt_z}
use Rattle.index.specs.Index.{iter, gather}
use Rattle.varint.specs.Codes.{number_of, code_of, magnitude}
use Rattle.records.specs.declared.Groups.{Groups}
use Rattle.records.specs.declared.Peer.{Peer}
use Rattle.records.specs.declared.TopicRecord.{TopicRecord}
use Rattle.records.specs.Records.{State, slot_count, topic_count, code_in, peer_in, topic_in, place, set_clock, set_peer, set_joined, is_connected}
use Rattle.records.specs.Parameters.{d_lo_at, d_at, d_out_at, d_score_at, opportunistic_threshold_at, graylist_threshold_at, p7_decay_at, decay_to_zero_at}
use Rattle.validity.specs.Valid.{valid}
use Rattle.lookup.specs.Find.{find_connected, find_retained, lowest_empty}
use Rattle.lookup.specs.Name.{version_of}
use Rattle.score.specs.declared.TopicParams.{TopicParams}
use Rattle.score.specs.Score.{why_in, score_in, topic_params_in}
use Rattle.score.specs.Counters.{count_most, raised_of, first_of, near_first_of, invalid_of, grown_of, faded_of, decayed_of}
use Rattle.sets.specs.Sets.{by_slot, at, is_permutation}
use Rattle.mesh.specs.declared.Degrees.{Degrees}
use Rattle.mesh.specs.Maintenance.{View}
use Rattle.mesh.specs.Maintenance.{Meshes}
use Rattle.mesh.specs.Maintenance.{Action as Told, zero_score, meshes, changes_of, actions_of}
use Rattle.rules.specs.declared.Answer.{Answer}
use Rattle.rules.specs.declared.Answer.TheVariants.{Scored, Early, OutOfRange, NotConnected, AlreadyConnected, NoSlot}
use Rattle.rules.specs.declared.Answer.TheVariants.{UnknownProtocol, NotPermutation, ListShort, NotRouter}
use Rattle.rules.specs.declared.Sender.{Sender}
use Rattle.rules.specs.declared.Seen.{Seen}
use Rattle.rules.specs.declared.GraftCase.{GraftCase}
use Rattle.rules.specs.declared.GraftCase.TheVariants.{NotJoined, Graylisted, AlreadyMember, Explicit, InBackoff, Negative}
use Rattle.rules.specs.declared.GraftCase.TheVariants.{NotSubscribed, Full, Enters}
use Rattle.effects.specs.Actions.{Action, prune_of}
use Rattle.rules.specs.Reply.{Reply, refused, ignored, done}
use Rattle.effects.specs.Effects.{high_degree, prune_backoff, unsubscribe_backoff, with_end, with_p5, with_p7, connected_as, out_of_mesh}
use Rattle.effects.specs.Effects.{into_mesh, with_subscribed, on_peer, on_topic, is_joined, is_member, is_subscribed, mesh_size, backoff_runs}
use Rattle.effects.specs.Effects.{pruned, end_after, departed, reclaimed}
use Rattle.rules.specs.Calls.{Call, connect, disconnect, join, leave, subscribe, unsubscribe, graft, prune, deliver, rate, heartbeat}
use Rattle.rules.specs.Calls.{decay, score, time_of, in_range, groups_of}

-- ---- the tests that every call begins with: 12, 2, 8, 1
-- "the action list needs 768 numbers" (02, order 9; 192 in 01): three for each slot
abbrev pub action_room : ℕ
action_room = 3 * slot_count

unfoldable pub gate_of : State → Bool → ℕ → ℕ → Result (Unit {0}) Answer
gate_of st fine room time =
    cond (valid st)
    (cond fine
    (cond (leb action_room room) (cond (leb st.clock time) (Ok tt) (Err Early)) (Err ListShort))
    (Err OutOfRange))
    (Err NotRouter)

abbrev pub through : Result (Unit {0}) Answer → State → Reply → Reply
through (Ok tt) st r = r
through (Err a) st r = refused a st

-- 3: "no connected record holds the id"
abbrev pub on_found : Option ℕ → (ℕ → Reply) → Reply → Reply
on_found (Some s) f r = f s
on_found None f r = r

abbrev pub of_peer : State → ℕ → (ℕ → Reply) → Reply
of_peer st id f = on_found (find_connected st id) f (refused NotConnected st)

-- ---- what a peer is worth
unfoldable pub is_negative : State → ℕ → Bool
is_negative st s = lt_z (score_in st s) (pos 0)

-- "from a non-explicit peer scoring below graylist"; the threshold is in thousandths of a point
unfoldable pub is_graylisted : State → ℕ → Bool
is_graylisted st s = eqb (peer_in st s).explicit 0 && lt_z (score_in st s) (number_of (code_in st graylist_threshold_at) *ℤ pos 1000000)

-- what a call sees of the peer that sent it, and of its topic
abbrev pub sender_in : State → ℕ → Sender
sender_in st s = record { peer = peer_in st s; graylisted = is_graylisted st s; negative = is_negative st s }

abbrev pub seen_in : State → ℕ → ℕ → Seen
seen_in st t s = record { sender = sender_in st s; joined = is_joined st t; topic = topic_in st (place s t) }

-- what PRUNE and delivery ask first: the topic is joined, and the peer not graylisted
abbrev pub heard : Seen → Bool
heard v = v.joined && not v.sender.graylisted

unfoldable pub is_heard : State → ℕ → ℕ → Bool
is_heard st t s = heard (seen_in st t s)

-- ---- connect: tests 6, 4 and 5
-- "A retained id resumes its record [..]; another takes the lowest empty slot; 5 is given exactly if there is none."
pub data ConnectCase : Type 0 where
  NameUnknown : ConnectCase
  IdConnected : ConnectCase
  -- version and slot
  Resumes : ℕ → ℕ → ConnectCase
  Takes : ℕ → ℕ → ConnectCase
  NoneEmpty : ConnectCase

-- which it is, from the name's version, and from where the id is connected, where it is retained, and what the lowest empty slot is
abbrev pub connect_case : Option ℕ → Option ℕ → Option ℕ → Option ℕ → ConnectCase
connect_case None connected retained empty = NameUnknown
connect_case (Some v) (Some s) retained empty = IdConnected
connect_case (Some v) None (Some s) empty = Resumes v s
connect_case (Some v) None None (Some s) = Takes v s
connect_case (Some v) None None None = NoneEmpty

unfoldable pub connect_at : State → ℕ → ℕ → Groups → ℕ → ℕ → ℕ → Reply
connect_at st time id groups flags version s =
    done (on_peer st s (λ p. connected_as p id groups flags version)) time []

-- and what is done then: st is the state at the start, u the one with every reclaimable record emptied
abbrev pub connect_done : ConnectCase → State → State → ℕ → ℕ → Groups → ℕ → Reply
connect_done NameUnknown st u time id groups flags = refused UnknownProtocol st
connect_done IdConnected st u time id groups flags = refused AlreadyConnected st
connect_done (Resumes v s) st u time id groups flags = connect_at u time id groups flags v s
connect_done (Takes v s) st u time id groups flags = connect_at u time id groups flags v s
connect_done NoneEmpty st u time id groups flags = refused NoSlot st

unfoldable pub connect_in : State → State → ℕ → ℕ → Groups → ℕ → Option ℕ → Option ℕ → Reply
connect_in st u time id groups flags version connected =
    connect_done (connect_case version connected (find_retained u id) (lowest_empty u)) st u time id groups flags

unfoldable pub connect_reply : State → ℕ → ℕ → Groups → ℕ → List ℕ → Reply
connect_reply st time id groups flags name =
    connect_in st (reclaimed st time) time id groups flags (version_of name) (find_connected st id)

-- ---- join and leave: "11 when already so"
unfoldable pub join_reply : State → ℕ → ℕ → Reply
join_reply st time t = cond (is_joined st t) (ignored st time) (done (set_joined st t 1) time [])

-- a member that we PRUNE: "P3b grows by P3 as it stands when we PRUNE a member whose score is negative at the start of the call"; st is
-- the state at the start
unfoldable pub punished : State → ℕ → ℕ → State → State
punished st t s u = cond (is_negative st s) (on_topic u s t (grown_of (topic_params_in st t))) u

-- "Leave PRUNEs every member by slot, with the unsubscribe backoff."
unfoldable pub leave_slot : State → ℕ → ℕ → ℕ → State → State
leave_slot st t end s u = cond (is_member st t s) (pruned (punished st t s u) s t end) u

unfoldable pub leave_actions : State → ℕ → ℕ → List Action
leave_actions st t n =
    gather n (λ s. cond (is_member st t s) (prune_of (peer_in st s) (unsubscribe_backoff st) ∷ []) [])

unfoldable pub leave_reply : State → ℕ → ℕ → Reply
leave_reply st time t =
    cond (is_joined st t)
    (done (set_joined (iter slot_count (leave_slot st t (end_after time (unsubscribe_backoff st))) st) t 0) time (leave_actions st t slot_count))
    (ignored st time)

-- ---- subscribe and unsubscribe: "A subscription is recorded in any topic; one that changes nothing is 0." "Unsubscribe takes a member
-- out, with no action."
unfoldable pub subscribe_reply : State → ℕ → ℕ → ℕ → Reply
subscribe_reply st time t s =
    cond (is_graylisted st s) (ignored st time) (done (on_topic st s t (λ r. with_subscribed r 1)) time [])

unfoldable pub unsubscribe_reply : State → ℕ → ℕ → ℕ → Reply
unsubscribe_reply st time t s =
    cond (is_graylisted st s) (ignored st time) (done (on_topic st s t (λ r. with_subscribed (out_of_mesh r) 0)) time [])

-- ---- GRAFT in, "first that holds"
-- with a PRUNE: "Each PRUNE here [..] sets the end to the later of old and now + prune backoff"; p is the record that gets the end
unfoldable pub graft_refused : State → ℕ → ℕ → ℕ → Peer → Reply
graft_refused st time t s p =
    done (set_peer st s (with_end p t (end_after time (prune_backoff st)))) time (prune_of p (prune_backoff st) ∷ [])

-- "P7 + 1000", to 10^6
unfoldable pub raised_p7 : Peer → Peer
raised_p7 p = with_p7 p (raised_of p.p7 count_most)

-- "mesh ≥ D_hi"
unfoldable pub is_crowded : State → ℕ → Bool
is_crowded st t = leb (high_degree st) (mesh_size st t)

-- "not joined 11; graylisted 11; already member, done; explicit, PRUNE; backoff running (now < end), PRUNE and P7 + 1000; score negative,
-- PRUNE; not subscribed, PRUNE; mesh ≥ D_hi and inbound, PRUNE; else member": which it is
unfoldable pub graft_case : Seen → Bool → ℕ → ℕ → GraftCase
graft_case v crowded time t =
    cond (not v.joined) NotJoined
    (cond v.sender.graylisted Graylisted
    (cond (eqb v.topic.member 1) AlreadyMember
    (cond (eqb v.sender.peer.explicit 1) Explicit
    (cond (backoff_runs v.sender.peer t time) InBackoff
    (cond v.sender.negative Negative
    (cond (not (eqb v.topic.subscribed 1)) NotSubscribed
    (cond (crowded && eqb v.sender.peer.outbound 0) Full Enters)))))))

-- and what is done then
abbrev pub graft_done : GraftCase → State → ℕ → ℕ → ℕ → Reply
graft_done NotJoined st time t s = ignored st time
graft_done Graylisted st time t s = ignored st time
graft_done AlreadyMember st time t s = done st time []
graft_done Explicit st time t s = graft_refused st time t s (peer_in st s)
graft_done InBackoff st time t s = graft_refused st time t s (raised_p7 (peer_in st s))
graft_done Negative st time t s = graft_refused st time t s (peer_in st s)
graft_done NotSubscribed st time t s = graft_refused st time t s (peer_in st s)
graft_done Full st time t s = graft_refused st time t s (peer_in st s)
graft_done Enters st time t s = done (on_topic st s t (λ r. into_mesh r time)) time []

unfoldable pub graft_reply : State → ℕ → ℕ → ℕ → Reply
graft_reply st time t s = graft_done (graft_case (seen_in st t s) (is_crowded st t) time t) st time t s

-- ---- PRUNE in: "backoff end = later of the old and now + given seconds (0 means prune backoff; above 3600 counts as 3600), member or not"
unfoldable pub seconds_of : State → ℕ → ℕ
seconds_of st seconds = cond (eqb seconds 0) (prune_backoff st) (min seconds 3600)

unfoldable pub prune_reply : State → ℕ → ℕ → ℕ → ℕ → Reply
prune_reply st time t seconds s =
    cond (is_heard st t s)
    (done (pruned st s t (end_after time (seconds_of st seconds))) time [])
    (ignored st time)

-- ---- delivery: "in a topic not joined 11"
-- kinds: 1 first, 2 near-first, 3 invalid
unfoldable pub delivered_of : ℕ → TopicParams → TopicRecord → TopicRecord
delivered_of kind t r = cond (eqb kind 1) (first_of t r) (cond (eqb kind 2) (near_first_of t r) (invalid_of r))

unfoldable pub deliver_reply : State → ℕ → ℕ → ℕ → ℕ → Reply
deliver_reply st time t kind s =
    cond (is_heard st t s)
    (done (on_topic st s t (delivered_of kind (topic_params_in st t))) time [])
    (ignored st time)

-- ---- heartbeat, 01's tidy: "with a draw and a yes or no for opportunism; topic not joined: 11"
-- "A candidate is connected, subscribed, not explicit, not a member, score ≥ 0, backoff not running."
-- 02, order 3, in place of the last: "A candidate now needs now ≥ backoff end + 1000 ms, or an end of 0 (never set)."
abbrev pub graft_slack : ℕ
graft_slack = 1000

abbrev pub past_slack : ℕ → ℕ → Bool
past_slack end time = eqb end 0 || leb (end + graft_slack) time

unfoldable pub is_candidate : State → ℕ → ℕ → ℕ → Bool
is_candidate st time t s =
    is_connected (peer_in st s)
    && (is_subscribed st t s
    && (eqb (peer_in st s).explicit 0
    && (not (is_member st t s) && (not (is_negative st s) && past_slack (get_or (peer_in st s).backoff t 0) time))))

-- a score as maintenance takes it: moved up by 2.6 × 10^18, which no score passes, so that none is negative
unfoldable pub height_in : State → ℕ → ℕ
height_in st s = nat_abs (pos zero_score +ℤ score_in st s)

-- D_lo, D, D_hi, D_out, D_score, and the opportunistic threshold, in thousandths of a point, as a score is taken
unfoldable pub degrees_in : State → Degrees
degrees_in st =
    record {
      lo = magnitude (code_in st d_lo_at);
      d = magnitude (code_in st d_at);
      hi = high_degree st;
      out = magnitude (code_in st d_out_at);
      score = magnitude (code_in st d_score_at);
      threshold = zero_score + magnitude (code_in st opportunistic_threshold_at) * 1000000;
    }

-- "Scores and candidates are those at the start"
unfoldable pub view_in : State → ℕ → ℕ → ℕ → List ℕ → View
view_in st time t ask order =
    record {
      members = by_slot slot_count (is_member st t);
      candidates = by_slot slot_count (is_candidate st time t);
      outbound = by_slot slot_count (λ s. eqb (peer_in st s).outbound 1);
      scores = by_slot slot_count (height_in st);
      permutation = order;
      ask = eqb ask 1;
    }

-- the meshes that the five steps leave
unfoldable pub meshes_in : State → ℕ → ℕ → ℕ → List ℕ → Meshes
meshes_in st time t ask order = meshes slot_count (degrees_in st) (view_in st time t ask order)

-- what becomes of slot s, from the state at the start and the mesh that is left: a member that is not in it was PRUNEd ("Each PRUNE here
-- and in a tidy sets the end to the later of old and now + prune backoff"), and one that is in it and was none is grafted
unfoldable pub settle_slot : State → ℕ → ℕ → List Bool → ℕ → State → State
settle_slot st time t mesh s u =
    cond (is_member st t s)
    (cond (at mesh s) u (pruned (punished st t s u) s t (end_after time (prune_backoff st))))
    (cond (at mesh s) (on_topic u s t (λ r. into_mesh r time)) u)

-- the action of a kind on the peer in a slot, with "the sheet's prune [..] backoff in seconds (0 for GRAFT and for a 1.0.0 peer)"
abbrev pub told_in : State → ℕ → ℕ
told_in st s = cond (eqb (peer_in st s).version 0) 0 (prune_backoff st)

abbrev pub action_in : State → Told → Action
action_in st a =
    record {
      kind = a.kind;
      id = (peer_in st a.slot).id;
      seconds = cond (eqb a.kind 2) (told_in st a.slot) 0;
    }

unfoldable pub heartbeat_actions : State → ℕ → List ℕ → Meshes → List Action
heartbeat_actions st t order m =
    map (action_in st) (actions_of slot_count order (changes_of (by_slot slot_count (is_member st t)) m))

-- the reply of a joined topic
unfoldable pub maintained_reply : State → ℕ → ℕ → ℕ → List ℕ → Reply
maintained_reply st time t ask order =
    done
    (iter slot_count (settle_slot st time t (meshes_in st time t ask order).fifth) st)
    time
    (heartbeat_actions st t order (meshes_in st time t ask order))

-- 7 before 11
unfoldable pub heartbeat_reply : State → ℕ → ℕ → ℕ → List ℕ → Reply
heartbeat_reply st time t ask order =
    cond (is_permutation slot_count order)
    (cond (is_joined st t) (maintained_reply st time t ask order) (ignored st time))
    (refused NotPermutation st)

-- ---- decay, "connected peers only"
-- decay-to-zero and P7's decay are the general numbers 18 and 17
abbrev pub decay_floor : State → ℕ
decay_floor st = magnitude (code_in st decay_to_zero_at)

unfoldable pub decay_topic : ℕ → ℕ → ℕ → State → State
decay_topic time s t st = on_topic st s t (decayed_of (topic_params_in st t) (decay_floor st) time)

unfoldable pub decay_p7 : ℕ → State → State
decay_p7 s st = on_peer st s (λ p. with_p7 p (faded_of (decay_floor st) (magnitude (code_in st p7_decay_at)) p.p7))

unfoldable pub decay_slot : ℕ → ℕ → State → State
decay_slot time s st = cond (is_connected (peer_in st s)) (decay_p7 s (iter topic_count (decay_topic time s) st)) st

unfoldable pub decay_reply : State → ℕ → Reply
decay_reply st time = done (iter slot_count (decay_slot time) st) time []

-- ---- each call, from a state that passed the first tests
unfoldable pub effect : State → Call → Reply
effect st (connect time id groups flags name) = connect_reply st time id (groups_of groups) flags name
effect st (disconnect time id) = of_peer st id (λ s. done (departed st s time) time [])
effect st (join time t) = join_reply st time t
effect st (leave time t) = leave_reply st time t
effect st (subscribe time id t) = of_peer st id (subscribe_reply st time t)
effect st (unsubscribe time id t) = of_peer st id (unsubscribe_reply st time t)
effect st (graft time id t) = of_peer st id (graft_reply st time t)
effect st (prune time id t seconds) = of_peer st id (prune_reply st time t seconds)
effect st (deliver time id t kind) = of_peer st id (deliver_reply st time t kind)
effect st (rate time id p5) = of_peer st id (λ s. done (on_peer st s (λ p. with_p5 p (code_of p5))) time [])
effect st (heartbeat time t ask order) = heartbeat_reply st time t ask order
effect st (decay time) = decay_reply st time
effect st (score time id) =
    of_peer st id (λ s. record { answer = Scored (why_in st s); state = set_clock st time; actions = [] })

-- every call: state, call, and how many numbers the lent list has room for
unfoldable pub step : State → Call → ℕ → Reply
step st c room = through (gate_of st (in_range c) room (time_of c)) st (effect st c)
