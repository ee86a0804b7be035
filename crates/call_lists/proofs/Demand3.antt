-- Demand 3: the invariant after every list of calls, call by call, and what the statement says by it.
-- Assumes nothing.
use Prim.Native.Nat.{ℕ, ◌<◌}
use native.Mathlib.Omega.{arith}
use mathlib.Core.Path.{◌≡◌, sym, ap}
use mathlib.Core.Bool.{Bool, true, not, ◌&&◌}
use mathlib.Core.List.{List, [], ◌∷◌}
use lib.Dec.{eqb, leb}
use lib.ListN.{get_or-eq_default}
use borrow.Author.Tests.{eqb-true, eqb-false}
use Rattle.index.proofs.Index.{both, count_same}
use Rattle.index.proofs.Flags.{by_test, by_order}
use Rattle.params.specs.declared.Params.{Params}
use Rattle.records.specs.Records.{State, peer_in, joined_in, slot_count}
use Rattle.layout.specs.View.{Sized}
use Rattle.validity.specs.Valid.{valid}
use Rattle.effects.specs.Effects.{is_joined, is_member}
use Rattle.rules.specs.Reply.{Reply, number_of}
use Rattle.rules.specs.Calls.{Call, connect, disconnect, join, leave, subscribe, unsubscribe, graft, prune, deliver, rate, heartbeat, decay}
use Rattle.rules.specs.Calls.{score, topic_ok, arguments_ok}
use Rattle.rules.specs.Step.{of_peer, effect, step}
use Rattle.rules.proofs.CaseLaws.{topic_in_lem, topic_of_both, arguments, by_peer, by_gate}
use Rattle.rules.proofs.Keeps.{keeps, keeps_sizes}
use Rattle.call_lists.specs.Lists.{Start, Made, after, answered, outbound}
use Rattle.call_lists.specs.Demand3.{Accepted, member, outbound_at, members, outbound_members, inbound_members, Maintained, Demand3}
use Rattle.call_lists.proofs.Fewer.{Fewer, fewer_self}
use Rattle.call_lists.proofs.Frames.{fewer_still, fewer_disconnect, fewer_join, fewer_leave, fewer_rate, fewer_decay}
use Rattle.call_lists.proofs.Frames.{fewer_subscribe, fewer_unsubscribe, fewer_prune, fewer_deliver}
use Rattle.call_lists.proofs.Standing.{Standing, is_inbound, inbounds, member_connected, stands_start}
use Rattle.call_lists.proofs.Replies.{heard_of, After, Stays, after_refused, after_fewer}
use Rattle.call_lists.proofs.Connect.{stands_connect}
use Rattle.call_lists.proofs.Graft.{stands_graft}
use Rattle.call_lists.proofs.Heartbeat.{MaintainedIn, stands_heartbeat, maintained_heartbeat}

-- ---- one call
module _ (params : Params) (dir : ℕ → Bool) (st : State) (h : Standing params dir st) where
  less : (u : State) → Fewer st u → Sized u → valid u ≡ true → Standing params dir u
  less u f = after_fewer params dir st h u f

  -- a call of a peer that leaves nobody new
  of_peer_lem : (id : ℕ) (f : ℕ → Reply) → ((s : ℕ) → Fewer st (f s).state) → Stays params dir (of_peer st id f)
  of_peer_lem id f k = by_peer (Stays params dir) st id f (less st (fewer_self st)) (λ s l on. less (f s).state (k s))

  stands_effect : (c : Call) → arguments_ok c ≡ true → After params dir c (effect st c)
  unfolding effect
  stands_effect (connect time id groups flags name) a = stands_connect params dir st h time id groups flags name
  stands_effect (disconnect time id) a = of_peer_lem id _ (fewer_disconnect st time)
  stands_effect (join time t) a = less _ (fewer_join st time t)
  stands_effect (leave time t) a = less _ (fewer_leave st time t)
  stands_effect (subscribe time id t) a = of_peer_lem id _ (fewer_subscribe st time t)
  stands_effect (unsubscribe time id t) a = of_peer_lem id _ (fewer_unsubscribe st time t)
  stands_effect (graft time id t) a =
      by_peer (Stays params dir) st id _ (less st (fewer_self st)) (λ s l on.
      stands_graft params dir st h time t s (topic_of_both id t a) l)
  stands_effect (prune time id t seconds) a = of_peer_lem id _ (λ s. fewer_prune st time t s seconds)
  stands_effect (deliver time id t kind) a = of_peer_lem id _ (λ s. fewer_deliver st time t s kind)
  stands_effect (rate time id p5) a = of_peer_lem id _ (fewer_rate st time p5)
  stands_effect (heartbeat time t ask order) a =
      stands_heartbeat params dir st h time t ask order (topic_in_lem t (both (topic_ok t) (leb ask 1) a).0)
  stands_effect (decay time) a = less _ (fewer_decay st time)
  stands_effect (score time id) a = of_peer_lem id _ (λ s. fewer_still st time)

  pub stands_step : (c : Call) (room : ℕ) → Standing params (heard_of c (step st c room).answer dir) (step st c room).state
  stands_step c room =
      by_gate (After params dir c) st c room
      (after_refused params dir st h c)
      (λ p. stands_effect c (arguments c p.ranges))
      (keeps_sizes st c room h.size)
      (keeps st c room h.size h.router)

  -- a heartbeat that was answered 0
  pub maintained_step :
      (time t ask room : ℕ) (order : List ℕ) → number_of (step st (heartbeat time t ask order) room).answer ≡ 0 →
      MaintainedIn params dir st (step st (heartbeat time t ask order) room).state time t
  unfolding effect
  maintained_step time t ask room order =
      by_gate (λ (r : Reply). number_of r.answer ≡ 0 → MaintainedIn params dir st r.state time t) st
      (heartbeat time t ask order)
      room
      (λ a e zero. absurd (eqb-false (number_of a) 0 e zero))
      (λ p.
      let a = arguments (heartbeat time t ask order) p.ranges in
      maintained_heartbeat params dir st h time t ask order (topic_in_lem t (both (topic_ok t) (leb ask 1) a).0))

-- ---- every list of calls
module _ (start : Start) (ok : Accepted start) where
  pub standing : (calls : List Made) → Standing start.params (outbound start calls) (after start calls)
  unfolding after outbound answered
  standing [] = stands_start start ok (outbound start [])
  standing (c ∷ before) = stands_step start.params (outbound start before) (after start before) (standing before) c.call c.room

  -- the flag of a connected peer's record is the direction that its last connect answered 0 said
  pub direction_tied :
      (calls : List Made) (s : ℕ) →
      s < slot_count →
      (peer_in (after start calls) s).status ≡ 1 →
      eqb (peer_in (after start calls) s).outbound 1 ≡ outbound start calls (peer_in (after start calls) s).id
  direction_tied calls = (standing calls).tied

  -- ---- the inbound members of a joined topic
  joined_below : (calls : List Made) (t : ℕ) → is_joined (after start calls) t ≡ true → t < 8
  unfolding joined_in
  joined_below calls t e =
      by_order (t < 8) t 8 (λ l. l) (λ l.
      let z = (standing calls).size.joined in
      let n = get_or-eq_default (after start calls).joined 0 {n = t} (omega arith) in
      absurd (omega (arith, eqb-true (joined_in (after start calls) t) 1 e)))

  inbound_same :
      (calls : List Made) (t s : ℕ) →
      t < 8 →
      s < slot_count →
      member start calls t s && not (outbound_at start calls s) ≡ is_inbound (after start calls) t s
  inbound_same calls t s k l =
      by_test _ (is_member (after start calls) t s)
      (λ m.
      rw m
      (sym (ap not (direction_tied calls s l (member_connected (after start calls) (standing calls).router t s k l m)))))
      (λ m. rw m)

  inbound_count : (calls : List Made) (t : ℕ) → t < 8 → inbound_members start calls t ≡ inbounds (after start calls) t
  unfolding inbound_members inbounds
  inbound_count calls t k =
      count_same
      (λ s. member start calls t s && not (outbound_at start calls s))
      (is_inbound (after start calls) t)
      slot_count
      (λ s l. inbound_same calls t s k l)

  -- ---- after a heartbeat
  maintained_last :
      (time t ask room : ℕ) (order : List ℕ) (before : List Made) →
      answered start (record { call = heartbeat time t ask order; room = room }) before ≡ 0 →
      Maintained start (record { call = heartbeat time t ask order; room = room } ∷ before) before time t
  unfolding after outbound answered members outbound_members
  maintained_last time t ask room order before zero =
      let w = maintained_step start.params (outbound start before) (after start before) (standing before) time t ask room order zero in
      record { good = w.good; outs = w.outs; enough = w.enough }

pub demand3 : Demand3
demand3 start calls ok =
    record {
      inbound = λ t j.
          let k = joined_below start ok calls t j in
          omega (arith, inbound_count start ok calls t k, (standing start ok calls).few t k);
      maintained = λ time t ask room order before e zero. rw e (maintained_last start ok time t ask room order before zero);
    }
