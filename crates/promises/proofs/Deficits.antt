-- P3b, the other calls: a relation between two states that composes, `Lower`, kept by every store but that of a member's PRUNE; and a
-- connect, whose slot is its id's own, or was emptied, or is empty.
-- Assumes nothing.
use Rattle.std.proofs.Common.{Option, Some, None}
use Rattle.rules.proofs.ConnectLaws.{by_connect}
use Prim.Native.Nat.{ℕ, ◌+◌, ◌*◌, ◌≤◌, ◌<◌}
use native.Mathlib.Omega.{arith}
use mathlib.Core.Path.{◌≡◌, refl, sym, ap, ◌∙◌}
use mathlib.Core.Logic.{◌≢◌, ◌⊎◌, inl, inr, ⊎_elim}
use mathlib.Core.Bool.{Bool, true, cond}
use mathlib.Core.List.{List, map}
use lib.Dec.{eqb}
use lib.ListN.{get_or}
use borrow.Author.Tests.{eqb-true, eqb-false}
use Rattle.index.specs.Index.{iter}
use Rattle.index.proofs.Index.{iter_keeps}
use Rattle.index.proofs.Flags.{by_test, cond_case}
use Rattle.varint.specs.Codes.{code_of, magnitude}
use Rattle.params.specs.declared.Params.{Params}
use Rattle.records.specs.declared.Peer.{Peer}
use Rattle.records.specs.declared.TopicRecord.{TopicRecord}
use Rattle.records.specs.declared.Groups.{Groups}
use Rattle.records.specs.Records.{State, no_peer, no_topic, place, code_in, peer_in, topic_in, set_clock, set_joined, set_peer, set_topic, slot_count}
use Rattle.records.specs.Records.{is_connected}
use Rattle.layout.specs.View.{Sized}
use Rattle.layout.proofs.StateLaws.{topic_case, topic_after_clock, topic_after_joined, topic_after_peer, codes_after_peer}
use Rattle.layout.proofs.StateLaws.{codes_after_topic}
use Rattle.layout.proofs.StateLaws.{peer_same, peer_other, peer_after_clock}
use Rattle.validity.specs.Valid.{valid}
use Rattle.validity.proofs.ValidLaws.{valid_facts}
use Rattle.lookup.specs.Find.{find_connected}
use Rattle.lookup.proofs.FindLaws.{retained_at, empty_at}
use Rattle.score.specs.Counters.{first_of, near_first_of, invalid_of, decayed_of}
use Rattle.score.specs.Score.{topic_params_in}
use Rattle.score.proofs.CounterLaws.{faded_less}
use Rattle.score.proofs.InputLaws.{params_in}
use Rattle.effects.specs.Effects.{connected_as, out_of_mesh, into_mesh, with_subscribed, on_topic}
use Rattle.effects.specs.Effects.{is_joined, pruned, left_topic, departed, reclaimable, emptied, reclaim_slot}
use Rattle.effects.specs.Effects.{reclaimed}
use Rattle.effects.proofs.EffectLaws.{reclaimed_topic, reclaimed_stays, sized_reclaimed}
use Rattle.rules.specs.Reply.{Reply, ignored}
use Rattle.rules.specs.Calls.{Call, connect, disconnect, join, leave, subscribe, unsubscribe, graft, prune, deliver, rate, heartbeat, decay}
use Rattle.rules.specs.Calls.{groups_of, score}
use Rattle.rules.proofs.GraftLaws.{by_graft}
use Rattle.rules.specs.Step.{is_graylisted, is_heard, on_found, of_peer, connect_at, connect_reply, join_reply}
use Rattle.rules.specs.Step.{subscribe_reply, unsubscribe_reply, graft_refused, graft_reply}
use Rattle.rules.specs.Step.{prune_reply, delivered_of, deliver_reply, decay_floor, decay_topic, decay_p7, decay_slot, decay_reply, effect, step}
use Rattle.rules.proofs.CaseLaws.{by_gate}
use Rattle.call_lists.specs.Lists.{after}
use Rattle.call_lists.proofs.Demand3.{standing}
use Rattle.promises.specs.Grown.{p3b_in, OnlyByPrune, P3bGrows}
use Rattle.promises.proofs.Grown.{grown_by_leave, grown_by_heartbeat}

-- ---- no higher, at any place
abbrev Lower : State → State → Type 0
Lower st u = (k : ℕ) → (topic_in u k).p3b ≤ (topic_in st k).p3b

lower_self : (st : State) → Lower st st
lower_self st k = omega arith

lower_then : (a b c : State) → Lower a b → Lower b c → Lower a c
lower_then a b c f g k = omega (arith, f k, g k)

lower_same : (st u : State) → ((k : ℕ) → topic_in u k ≡ topic_in st k) → Lower st u
lower_same st u h k = let e = ap (λ (r : TopicRecord). r.p3b) (h k) in omega (arith, e)

lower_clock : (st : State) (n : ℕ) → Lower st (set_clock st n)
lower_clock st n = lower_same st (set_clock st n) (topic_after_clock st n)

lower_peer : (st : State) (s : ℕ) (p : Peer) → Lower st (set_peer st s p)
lower_peer st s p = lower_same st (set_peer st s p) (topic_after_peer st s p)

lower_topic : (st : State) (j : ℕ) (r : TopicRecord) → r.p3b ≤ (topic_in st j).p3b → Lower st (set_topic st j r)
lower_topic st j r h k = topic_case st (λ (q : TopicRecord). q.p3b ≤ (topic_in st k).p3b) j r k (λ e. rw e h) (omega arith)

lower_iter : (f : ℕ → State → State) (n : ℕ) (st : State) → ((i : ℕ) (u : State) → Lower u (f i u)) → Lower st (iter n f st)
lower_iter f n st h = iter_keeps (λ (u : State). Lower st u) f n st (lower_self st) (λ i u l w. lower_then st u (f i u) w (h i u))

lower_either : (st : State) (b : Bool) (u v : State) → Lower st u → Lower st v → Lower st (cond b u v)
lower_either st b u v f g = cond_case (Lower st) b u v (λ e. f) (λ e. g)

-- ---- the stores
lower_pruned : (st : State) (s t end : ℕ) → Lower st (pruned st s t end)
unfolding pruned out_of_mesh
lower_pruned st s t end =
    let u = on_topic st s t out_of_mesh in
    lower_then st u (pruned st s t end) (lower_topic st (place s t) _ (omega arith)) (lower_peer u s _)

lower_departed : (st : State) (s time : ℕ) → Lower st (departed st s time)
unfolding departed left_topic with_subscribed out_of_mesh
lower_departed st s time =
    let w = iter 8 (λ t u. left_topic u s t) st in
    lower_then st w (departed st s time)
    (lower_iter (λ t u. left_topic u s t) 8 st (λ t u. lower_topic u (place s t) _ (omega arith)))
    (lower_peer w s _)

lower_reclaimed : (st : State) (time : ℕ) → Lower st (reclaimed st time)
unfolding reclaimed reclaim_slot emptied
lower_reclaimed st time =
    lower_iter (reclaim_slot time) slot_count st (λ i u.
    let w = iter 8 (λ t v. set_topic v (place i t) no_topic) u in
    lower_either u (reclaimable (peer_in u i) time) (set_peer w i no_peer) u
    (lower_then u w (set_peer w i no_peer)
    (lower_iter (λ t v. set_topic v (place i t) no_topic) 8 u (λ t v. lower_topic v (place i t) no_topic (omega arith)))
    (lower_peer w i no_peer))
    (lower_self u))

-- ---- decay: the factor is below one
module _ (st : State) (ok : valid st ≡ true) (time : ℕ) where
  record Faded (u : State) : Type 0 where
    lower : Lower st u
    codes : u.codes ≡ st.codes

  faded_topic : (i t : ℕ) (u : State) → t < 8 → Faded u → Faded (decay_topic time i t u)
  unfolding decay_topic decayed_of topic_params_in code_in
  faded_topic i t u l w =
      let e = ap (λ (c : List ℕ). magnitude (get_or c (19 + 16 * t + 13) 0)) w.codes in
      let f =
      faded_less (decay_floor u * 1000) (topic_params_in u t).decay3b (p3b_in u i t)
      (omega (arith, e, (params_in st ok t l).decay3b)) in
      record {
        lower = lower_then st u (decay_topic time i t u) w.lower (lower_topic u (place i t) _ f);
        codes = codes_after_topic u (place i t) _ ∙ w.codes;
      }

  faded_slot : (i : ℕ) (u : State) → Faded u → Faded (decay_slot time i u)
  unfolding decay_slot decay_p7
  faded_slot i u w =
      let v = iter 8 (decay_topic time i) u in
      let x : Faded v = iter_keeps Faded (decay_topic time i) 8 u w (λ t v l y. faded_topic i t v l y) in
      cond_case Faded (is_connected (peer_in u i)) (decay_p7 i v) u
      (λ c.
      record {
        lower = lower_then st v (decay_p7 i v) x.lower (lower_peer v i _);
        codes = codes_after_peer v i _ ∙ x.codes;
      })
      (λ c. w)

  lower_decay : Lower st (decay_reply st time).state
  unfolding decay_reply
  lower_decay =
      let u = iter slot_count (decay_slot time) st in
      let w : Faded u =
      iter_keeps Faded (decay_slot time) slot_count st (record { lower = lower_self st; codes = refl }) (λ i u l. faded_slot i u) in
      lower_then st u (set_clock u time) w.lower (lower_clock u time)

-- ---- replies
module _ (st : State) (time : ℕ) where
  abbrev Low : Reply → Type 0
  Low r = Lower st r.state

  ticks : (u : State) → Lower st u → Lower st (set_clock u time)
  ticks u h = lower_then st u (set_clock u time) h (lower_clock u time)

  low_if : (b : Bool) (r q : Reply) → Low r → Low q → Low (cond b r q)
  low_if b r q f g = cond_case Low b r q (λ e. f) (λ e. g)

  low_found : (r : Option ℕ) (f : ℕ → Reply) (q : Reply) → ((s : ℕ) → Low (f s)) → Low q → Low (on_found r f q)
  low_found (Some s) f q h k = h s
  low_found None f q h k = k

  low_peer : (id : ℕ) (f : ℕ → Reply) → ((s : ℕ) → Low (f s)) → Low (of_peer st id f)
  low_peer id f h = low_found (find_connected st id) f _ h (lower_self st)

  low_at : (id : ℕ) (groups : Groups) (flags v s : ℕ) → Low (connect_at (reclaimed st time) time id groups flags v s)
  unfolding connect_at
  low_at id groups flags v s =
      let u = reclaimed st time in
      ticks _ (lower_then st u _ (lower_reclaimed st time) (lower_peer u s _))

  low_connect : (id : ℕ) (groups : Groups) (flags : ℕ) (name : List ℕ) → Low (connect_reply st time id groups flags name)
  low_connect id groups flags name =
      by_connect Low st time id groups flags name
      (λ n. lower_self st)
      (λ v s n c. lower_self st)
      (λ v s n c r. low_at id groups flags v s)
      (λ v s n c r e. low_at id groups flags v s)
      (λ v n c r e. lower_self st)

  low_subscribe : (t s : ℕ) → Low (subscribe_reply st time t s)
  unfolding subscribe_reply with_subscribed
  low_subscribe t s =
      low_if (is_graylisted st s) (ignored st time) _ (lower_clock st time) (ticks _ (lower_topic st (place s t) _ (omega arith)))

  low_unsubscribe : (t s : ℕ) → Low (unsubscribe_reply st time t s)
  unfolding unsubscribe_reply with_subscribed out_of_mesh
  low_unsubscribe t s =
      low_if (is_graylisted st s) (ignored st time) _ (lower_clock st time) (ticks _ (lower_topic st (place s t) _ (omega arith)))

  low_back : (t s : ℕ) (p : Peer) → Low (graft_refused st time t s p)
  unfolding graft_refused
  low_back t s p = ticks _ (lower_peer st s _)

  low_graft : (t s : ℕ) → Low (graft_reply st time t s)
  unfolding into_mesh
  low_graft t s =
      by_graft Low st time t s
      (λ e. lower_clock st time)
      (λ e m. lower_clock st time)
      (λ e. low_back t s _)
      (λ e. low_back t s _)
      (λ e. ticks _ (lower_topic st (place s t) _ (omega arith)))

  low_prune : (t seconds s : ℕ) → Low (prune_reply st time t seconds s)
  unfolding prune_reply
  low_prune t seconds s = low_if (is_heard st t s) _ (ignored st time) (ticks _ (lower_pruned st s t _)) (lower_clock st time)

  low_delivered : (t kind s : ℕ) → (delivered_of kind (topic_params_in st t) (topic_in st (place s t))).p3b ≤ p3b_in st s t
  unfolding delivered_of first_of near_first_of invalid_of
  low_delivered t kind s =
      cond_case (λ (r : TopicRecord). r.p3b ≤ p3b_in st s t) (eqb kind 1) _ _ (λ e. omega arith) (λ e.
      cond_case (λ (r : TopicRecord). r.p3b ≤ p3b_in st s t) (eqb kind 2) _ _ (λ e. omega arith) (λ e. omega arith))

  low_deliver : (t kind s : ℕ) → Low (deliver_reply st time t kind s)
  unfolding deliver_reply
  low_deliver t kind s =
      low_if (is_heard st t s) _ (ignored st time) (ticks _ (lower_topic st (place s t) _ (low_delivered t kind s))) (lower_clock st time)

-- ---- every call
module _ (params : Params) (st : State) (ok : valid st ≡ true) (codes : st.codes ≡ map code_of params.numbers) (size : Sized st) where
  -- through the gate
  other : (c : Call) (room s t : ℕ) → Lower st (effect st c).state → p3b_in (step st c room).state s t ≤ p3b_in st s t
  other c room s t h = by_gate (λ (r : Reply). p3b_in r.state s t ≤ p3b_in st s t) st c room (λ a e. omega arith) (λ p. h (place s t))

  -- a leave or a heartbeat of another topic leaves it as it was
  only_leave : (time v room s t : ℕ) → t < 8 → OnlyByPrune (leave time v) st (step st (leave time v) room).state s t
  only_leave time v room s t k =
      by_test _ (eqb t v)
      (λ e. inr (inl (time, ap (leave time) (sym (eqb-true t v e)))))
      (λ e. let q = (grown_by_leave params st codes size time v room).stays s t k (eqb-false t v e) in inl (omega (arith, q)))

  only_heartbeat :
      (time v ask room s t : ℕ) (order : List ℕ) → t < 8 →
      OnlyByPrune (heartbeat time v ask order) st (step st (heartbeat time v ask order) room).state s t
  only_heartbeat time v ask room s t order k =
      by_test _ (eqb t v)
      (λ e. inr (inr (time, ask, order, ap (λ (x : ℕ). heartbeat time x ask order) (sym (eqb-true t v e)))))
      (λ e. let q = (grown_by_heartbeat params st codes size time v ask room order).stays s t k (eqb-false t v e) in inl (omega (arith, q)))

  only : (c : Call) (room s t : ℕ) → t < 8 → OnlyByPrune c st (step st c room).state s t
  unfolding effect join_reply
  only (leave time v) room s t k = only_leave time v room s t k
  only (heartbeat time v ask order) room s t k = only_heartbeat time v ask room s t order k
  only (connect time id groups flags name) room s t k =
      inl (other (connect time id groups flags name) room s t (low_connect st time id (groups_of groups) flags name))
  only (disconnect time id) room s t k =
      inl (other (disconnect time id) room s t (low_peer st time id _ (λ i. ticks st time _ (lower_departed st i time))))
  only (join time v) room s t k =
      inl (other (join time v) room s t
      (low_if st time (is_joined st v) (ignored st time) _ (lower_clock st time)
      (ticks st time _ (lower_same st (set_joined st v 1) (topic_after_joined st v 1)))))
  only (subscribe time id v) room s t k = inl (other (subscribe time id v) room s t (low_peer st time id _ (low_subscribe st time v)))
  only (unsubscribe time id v) room s t k =
      inl (other (unsubscribe time id v) room s t (low_peer st time id _ (low_unsubscribe st time v)))
  only (graft time id v) room s t k = inl (other (graft time id v) room s t (low_peer st time id _ (low_graft st time v)))
  only (prune time id v seconds) room s t k =
      inl (other (prune time id v seconds) room s t (low_peer st time id _ (low_prune st time v seconds)))
  only (deliver time id v kind) room s t k =
      inl (other (deliver time id v kind) room s t (low_peer st time id _ (low_deliver st time v kind)))
  only (rate time id p5) room s t k =
      inl (other (rate time id p5) room s t (low_peer st time id _ (λ i. ticks st time _ (lower_peer st i _))))
  only (decay time) room s t k = inl (other (decay time) room s t (lower_decay st ok time))
  only (score time id) room s t k = inl (other (score time id) room s t (low_peer st time id _ (λ i. lower_clock st time)))

  -- ---- a record made anew
  module _ (time id : ℕ) (groups : Groups) (flags : ℕ) (name : List ℕ) (s t : ℕ) (h : s < slot_count) (k : t < 8) where
    abbrev New : Reply → Type 0
    New r = (peer_in r.state s).id ≢ (peer_in st s).id → p3b_in r.state s t ≡ 0

    abbrev w : State
    w = reclaimed st time

    new_at :
        (v i : ℕ) → i < slot_count → ((peer_in w i).id ≡ id) ⊎ ((peer_in w i).status ≡ 0) → New (connect_at w time id groups flags v i)
    unfolding connect_at connected_as
    new_at v i l from n =
        let p = connected_as (peer_in w i) id groups flags v in
        let u = set_peer w i p in
        let clock = peer_after_clock u time s in
        let same = topic_after_clock u time (place s t) ∙ topic_after_peer w i p (place s t) in
        let topic = ap (λ (r : TopicRecord). r.p3b) (same ∙ reclaimed_topic st time size s h t k) in
        by_test _ (reclaimable (peer_in st s) time)
        (λ e. topic ∙ rw e)
        (λ e.
        let stays : peer_in w s ≡ peer_in st s = reclaimed_stays st time size s h e in
        by_test _ (eqb s i)
        (λ q.
        let z : s ≡ i = eqb-true s i q in
        ⊎_elim
        (λ own.
        let given : peer_in u i ≡ p = peer_same w i p (omega (arith, (sized_reclaimed st time size).peers, l)) in
        let now-id : (peer_in (set_clock u time) s).id ≡ id = ap (λ (x : Peer). x.id) (clock ∙ ap (peer_in u) z ∙ given) in
        absurd (n (now-id ∙ sym own ∙ ap (λ (x : ℕ). (peer_in w x).id) (sym z) ∙ ap (λ (x : Peer). x.id) stays)))
        (λ empty.
        let was-empty : (peer_in st s).status ≡ 0 =
        ap (λ (x : Peer). x.status) (sym stays) ∙ ap (λ (x : ℕ). (peer_in w x).status) z ∙ empty in
        topic ∙ rw e (ap (λ (r : TopicRecord). r.p3b) (((valid_facts st ok).topic s t h k).empty was-empty)))
        from)
        (λ q. absurd (n (ap (λ (x : Peer). x.id) (clock ∙ peer_other w i p s (eqb-false s i q) ∙ stays)))))

    new_connect : New (connect_reply st time id groups flags name)
    new_connect =
        by_connect New st time id groups flags name
        (λ n d. absurd (d refl))
        (λ v i n c d. absurd (d refl))
        (λ v i n c r. let q = retained_at w id i r in new_at v i q.0 (inl q.2))
        (λ v i n c r e. let q = empty_at w i e in new_at v i q.0 (inr q.1))
        (λ v n c r e d. absurd (d refl))

pub p3b_grows : P3bGrows
unfolding effect
p3b_grows start calls fine =
    let st = after start calls in
    let w = standing start fine calls in
    record {
      left = grown_by_leave start.params st w.codes w.size;
      maintained = grown_by_heartbeat start.params st w.codes w.size;
      only = λ c room s t h k. only start.params st w.router w.codes w.size c room s t k;
      anew = λ time id groups flags room s t name h k.
          by_gate (New start.params st w.router w.codes w.size time id (groups_of groups) flags name s t h k) st
          (connect time id groups flags name) room
          (λ a e n. absurd (n refl))
          (λ p. new_connect start.params st w.router w.codes w.size time id (groups_of groups) flags name s t h k);
    }
