-- What the calls of orders 6 and 7 answer and leave, and what 01's calls do besides: 01's order of tests (12, 2, 8, 1, then 7, 3, 11, 13).
use Rattle.std.specs.Prelude.{Option, Some, None}
use Rattle.std.specs.Prelude.{ℕ, ◌+◌, ◌*◌, ◌/◌, max, Bool, true, false, cond, not, ◌&&◌, ◌||◌, List, [], ◌∷◌, ◌++◌, map, eqb, leb, ltb, pos, ◌*ℤ◌, length, take}
use Rattle.std.specs.Int.Signed.{lt_z}
use Rattle.index.specs.Index.{gather}
use Rattle.varint.specs.Codes.{number_of}
use Rattle.records.specs.Records.{State, slot_count, code_in, peer_in, set_clock, is_connected}
use Rattle.lookup.specs.Find.{find_connected}
use Rattle.records.specs.Parameters.{gossip_threshold_at}
use Rattle.score.specs.Score.{score_in}
use Rattle.sets.specs.Sets.{by_slot, in_order, is_permutation}
use Rattle.effects.specs.Actions.{Action}
use Rattle.effects.specs.Effects.{is_joined, is_member, is_subscribed, reclaimable}
use Rattle.rules.specs.Reply.{Reply, number_of as answer_number}
use Rattle.rules.specs.Calls.{Call, connect, disconnect, join, leave, subscribe, unsubscribe, graft, prune, deliver, rate, heartbeat, decay}
use Rattle.rules.specs.Calls.{score}
use Rattle.rules.specs.Step.{action_room, is_graylisted, step}
use Rattle.gossip.specs.Notes.{Setup, Note, Gossip, Extended, set_most, window_most, announced_windows, no_note, no_store, note_in, store_in}
use Rattle.gossip.specs.Notes.{has, holds, stored_in, stored, set_note, set_store, set_replies, put_in, aged, moved, added, count_in}
use Rattle.gossip.specs.Notes.{replied}
use Rattle.gossip.specs.Notes.{ended, forget}
use Rattle.gossip.specs.Valid.{gossip_ok, valid_all}
use Rattle.gossip.specs.Calls.{New, ask_all, idontwant, relay, beat, store, announce, ihave, iwant, Any, old, new, time_of_new}
use Rattle.gossip.specs.Calls.{new_in_range, list_ok}

-- ---- replies: 01's number, the state, the actions, and the numbers for the lent list of numbers
pub record FullReply : Type 0 where
  pub answer : ℕ
  pub state : Extended
  pub actions : List Action
  pub numbers : List ℕ

abbrev pub refused_all : ℕ → Extended → FullReply
refused_all a x = record { answer = a; state = x; actions = []; numbers = [] }

-- the clock moves and nothing else of 01's: "No notice touches a mesh or a score."
abbrev pub at : Extended → ℕ → Gossip → Extended
at x time g = record { base = set_clock x.base time; gossip = g }

abbrev pub ignored_all : Extended → ℕ → FullReply
ignored_all x time = record { answer = 11; state = at x time x.gossip; actions = []; numbers = [] }

abbrev pub done_all : Extended → ℕ → Gossip → List Action → List ℕ → FullReply
done_all x time g acts numbers = record { answer = 0; state = at x time g; actions = acts; numbers = numbers }

-- ---- 12, 2, 8, 1
unfoldable pub gated : Extended → Bool → Bool → ℕ → FullReply → FullReply
gated x fine fits time r =
    cond (valid_all x)
    (cond fine
    (cond fits (cond (leb x.base.clock time) r (refused_all 1 x)) (refused_all 8 x))
    (refused_all 2 x))
    (refused_all 12 x)

-- 3
abbrev pub on_slot : Option ℕ → (ℕ → FullReply) → FullReply → FullReply
on_slot (Some s) f r = f s
on_slot None f r = r

abbrev pub of_peer_all : Extended → ℕ → (ℕ → FullReply) → FullReply
of_peer_all x id f = on_slot (find_connected x.base id) f (refused_all 3 x)

-- a sender is ourselves (0) or connected
abbrev pub of_sender : Extended → ℕ → FullReply → FullReply
of_sender x id r = cond (eqb id 0) r (of_peer_all x id (λ s. r))

-- 11 in a topic not joined
abbrev pub if_joined : Extended → ℕ → ℕ → FullReply → FullReply
if_joined x time t r = cond (is_joined x.base t) r (ignored_all x time)

-- "action kind k (third number 0), by slot"
abbrev pub tell_one : State → ℕ → ℕ → Action
tell_one st kind s = record { kind = kind; id = (peer_in st s).id; seconds = 0 }

unfoldable pub tell_by_slot : State → ℕ → (ℕ → Bool) → List Action
tell_by_slot st kind f = gather slot_count (λ s. cond (f s) (tell_one st kind s ∷ []) [])

-- ---- order 6
-- "Accept /meshsub/1.2.0": the version that the name stands for
abbrev pub notice_version : ℕ
notice_version = 2

-- "A host with a large message asks for IDONTWANT to all 1.2.0 members of the topic but the sender"
unfoldable pub is_asked : State → ℕ → ℕ → ℕ → Bool
is_asked st t sender s =
    is_member st t s && (eqb (peer_in st s).version notice_version && not (eqb (peer_in st s).id sender))

unfoldable pub ask_reply : Extended → ℕ → ℕ → ℕ → FullReply
ask_reply x time t sender =
    of_sender x sender
    (if_joined x time t (done_all x time x.gossip (tell_by_slot x.base 3 (is_asked x.base t sender)) []))

-- "A notice from an older or graylisted peer is 11."
unfoldable pub is_heeded : State → ℕ → Bool
is_heeded st s = eqb (peer_in st s).version notice_version && not (is_graylisted st s)

-- "A received IDONTWANT puts the number into that peer's set"
abbrev pub with_put : ℕ → Note → Note
with_put n p = record { held = put_in n p.held; puts = p.puts + 1; ihaves = p.ihaves }

-- "a full set is 11"; "beyond [the limit], 11, after the test for one already held"
abbrev pub has_room : Setup → Note → Bool
has_room p n = ltb n.puts p.limit && ltb (length n.held) set_most

unfoldable pub idontwant_reply : Extended → ℕ → ℕ → ℕ → FullReply
idontwant_reply x time n s =
    cond (is_heeded x.base s)
    (cond (holds (note_in x.gossip s) n) (done_all x time x.gossip [] [])
    (cond (has_room x.gossip.setup (note_in x.gossip s))
    (done_all x time (set_note x.gossip s (with_put n (note_in x.gossip s))) [] [])
    (ignored_all x time)))
    (ignored_all x time)

-- "the members and connected, subscribed explicit peers, except the sender and those whose set holds the number"
unfoldable pub is_relayed : Extended → ℕ → ℕ → ℕ → ℕ → Bool
is_relayed x t sender n s =
    (is_member x.base t s
    || (is_connected (peer_in x.base s) && (is_subscribed x.base t s && eqb (peer_in x.base s).explicit 1)))
    && (not (eqb (peer_in x.base s).id sender) && not (holds (note_in x.gossip s) n))

unfoldable pub relay_reply : Extended → ℕ → ℕ → ℕ → ℕ → FullReply
relay_reply x time t sender n =
    of_sender x sender
    (if_joined x time t (done_all x time x.gossip (tell_by_slot x.base 4 (is_relayed x t sender n)) []))

-- "A new heartbeat call sets the counts to 0; an entry goes at the third one after its arrival"; a store keeps "the last five heartbeats'"
abbrev pub beaten : Note → Note
beaten p = record { held = aged p.held; puts = 0; ihaves = 0 }

unfoldable pub beat_of : Gossip → Gossip
beat_of g =
    forget (record { setup = g.setup; notes = map beaten g.notes; stores = map moved g.stores; replies = g.replies })

-- ---- order 7
-- "With this heartbeat's 64 in the topic's store, a further number is 13, tested last; one already there changes nothing"
abbrev pub running : List (List ℕ) → ℕ
running [] = 0
running (w ∷ l) = length w

unfoldable pub store_reply : Extended → ℕ → ℕ → ℕ → FullReply
store_reply x time t n =
    if_joined x time t
    (cond (stored_in (store_in x.gossip t) n) (done_all x time x.gossip [] [])
    (cond (ltb (running (store_in x.gossip t)) window_most)
    (done_all x time (set_store x.gossip t (added n (store_in x.gossip t))) [] [])
    (refused_all 13 x)))

-- "from a non-explicit peer under the threshold"; the gossip threshold is in thousandths of a point
unfoldable pub under_gossip : State → ℕ → Bool
under_gossip st s = eqb (peer_in st s).explicit 0 && lt_z (score_in st s) (number_of (code_in st gossip_threshold_at) *ℤ pos 1000000)

-- "connected subscribed non-members, not explicit, scoring at least the gossip threshold"
unfoldable pub is_target : State → ℕ → ℕ → Bool
is_target st t s =
    is_connected (peer_in st s)
    && (is_subscribed st t s
    && (not (is_member st t s) && (eqb (peer_in st s).explicit 0 && not (under_gossip st s))))

-- the targets, "in draw order"
abbrev pub eligible : State → ℕ → List ℕ → List ℕ
eligible st t order = in_order (by_slot slot_count (is_target st t)) order

-- "take the larger of D_lazy and floor(count × factor / 1000), or all if fewer, in draw order"
abbrev pub chosen : Setup → List ℕ → List ℕ
chosen p fit = take (max p.lazy (length fit * p.factor / 1000)) fit

-- "the last three's [..], oldest first"
unfoldable pub oldest_first : List (List ℕ) → List ℕ
oldest_first [] = []
oldest_first (w ∷ l) = oldest_first l ++ w

abbrev pub announced : List (List ℕ) → List ℕ
announced w = oldest_first (take announced_windows w)

-- "none without numbers"
abbrev pub if_any : List ℕ → List Action → List Action
if_any [] acts = []
if_any (n ∷ l) acts = acts

unfoldable pub announce_reply : Extended → ℕ → ℕ → List ℕ → FullReply
announce_reply x time t order =
    cond (is_permutation slot_count order)
    (if_joined x time t
    (done_all x time x.gossip
    (if_any (announced (store_in x.gossip t)) (map (tell_one x.base 5) (chosen x.gossip.setup (eligible x.base t order))))
    (announced (store_in x.gossip t))))
    (refused_all 7 x)

-- "those that no topic stores, each once, in order"
unfoldable pub wanted : (ℕ → Bool) → List ℕ → List ℕ → List ℕ
wanted f l [] = l
wanted f l (n ∷ r) = wanted f (cond (f n || has n l) l (l ++ (n ∷ []))) r

abbrev pub with_ihave : Note → Note
with_ihave p = record { held = p.held; puts = p.puts; ihaves = p.ihaves + 1 }

-- "IHAVE in a topic not joined is 11"; under the threshold, and beyond the bound, too
unfoldable pub is_answered : Extended → ℕ → ℕ → Bool
is_answered x t s =
    is_joined x.base t
    && (not (under_gossip x.base s) && ltb (note_in x.gossip s).ihaves x.gossip.setup.ihaves)

unfoldable pub ihave_reply : Extended → ℕ → ℕ → List ℕ → ℕ → FullReply
ihave_reply x time t numbers s =
    cond (is_answered x t s)
    (done_all x time (set_note x.gossip s (with_ihave (note_in x.gossip s))) [] (wanted (stored x.gossip) [] numbers))
    (ignored_all x time)

-- "IWANT replies per connection and message while it stays stored; beyond [it], or when no topic stores it, 11"
unfoldable pub is_served : Extended → ℕ → ℕ → Bool
is_served x n s =
    not (under_gossip x.base s)
    && (stored x.gossip n && ltb (count_in x.gossip.replies n s) x.gossip.setup.replies)

unfoldable pub iwant_reply : Extended → ℕ → ℕ → ℕ → FullReply
iwant_reply x time n s =
    cond (is_served x n s)
    (done_all x time (set_replies x.gossip (replied n s x.gossip.replies)) [] [])
    (ignored_all x time)

-- ---- each new call behind the first tests
unfoldable pub new_effect : Extended → New → FullReply
new_effect x (ask_all time t sender n) = ask_reply x time t sender
new_effect x (idontwant time id n) = of_peer_all x id (idontwant_reply x time n)
new_effect x (relay time t sender n) = relay_reply x time t sender n
new_effect x (beat time) = done_all x time (beat_of x.gossip) [] []
new_effect x (store time t n) = store_reply x time t n
new_effect x (announce time t order list) = announce_reply x time t order
new_effect x (ihave time id t numbers list) = of_peer_all x id (ihave_reply x time t numbers)
new_effect x (iwant time id n) = of_peer_all x id (iwant_reply x time n)

-- ---- what 01's calls, answered 0, do besides
-- "an entry goes [..] at a disconnect"; replies are "per connection"
abbrev pub parted : Note → Note
parted p = record { held = []; puts = p.puts; ihaves = p.ihaves }

-- a connect empties the notes of the records that it reclaims; a record that is resumed keeps its counts
unfoldable pub kept : State → ℕ → Gossip → ℕ → Note
kept st time g s = cond (reclaimable (peer_in st s) time) no_note (note_in g s)

abbrev pub on_found_note : Option ℕ → Gossip → Gossip
on_found_note (Some s) g = set_replies (set_note g s (parted (note_in g s))) (ended s g.replies)
on_found_note None g = g

unfoldable pub besides : State → Call → Gossip → Gossip
besides st (connect time id group flags name) g =
    record { setup = g.setup; notes = by_slot slot_count (kept st time g); stores = g.stores; replies = g.replies }
besides st (disconnect time id) g = on_found_note (find_connected st id) g
besides st (join time t) g = g
-- "a leave empties its topic's store"
besides st (leave time t) g = forget (set_store g t no_store)
besides st (subscribe time id t) g = g
besides st (unsubscribe time id t) g = g
besides st (graft time id t) g = g
besides st (prune time id t seconds) g = g
besides st (deliver time id t kind) g = g
besides st (rate time id p5) g = g
besides st (heartbeat time t ask order) g = g
besides st (decay time) g = g
besides st (score time id) g = g

abbrev pub extended : Extended → Call → Reply → FullReply
extended x c r =
    record {
      answer = answer_number r.answer;
      state = record {
        base = r.state;
        gossip = cond (eqb (answer_number r.answer) 0) (besides x.base c x.gossip) x.gossip;
      };
      actions = r.actions;
      numbers = [];
    }

-- "Test 12 also asks that sets, counts and stores are within bounds": of the array that holds them, where a call is handed it. Ten of 01's
-- calls read and change nothing there, and are handed the table alone
abbrev pub handed : Call → Bool
handed (connect time id group flags name) = true
handed (disconnect time id) = true
handed (join time t) = false
handed (leave time t) = true
handed (subscribe time id t) = false
handed (unsubscribe time id t) = false
handed (graft time id t) = false
handed (prune time id t seconds) = false
handed (deliver time id t kind) = false
handed (rate time id p5) = false
handed (heartbeat time t ask order) = false
handed (decay time) = false
handed (score time id) = false

-- 01's call: test 12 comes before all else
unfoldable pub old_step : Extended → Call → ℕ → FullReply
old_step x c room =
    cond (not (handed c) || gossip_ok x.base x.gossip) (extended x c (step x.base c room)) (refused_all 12 x)

unfoldable pub new_step : Extended → New → ℕ → FullReply
new_step x c room =
    gated x (new_in_range c) (leb action_room room && list_ok c) (time_of_new c) (new_effect x c)

-- every call
unfoldable pub step_all : Extended → Any → ℕ → FullReply
step_all x (old c) room = old_step x c room
step_all x (new c) room = new_step x c room
