-- What most calls leave: who is a member was one since the same time, and his backoff ends no later. By store, by walk, and by call.
-- Assumes nothing.
use Prim.Native.Nat.{ℕ, zero, suc, ◌≤◌, ◌<◌}
use native.Mathlib.Omega.{arith}
use mathlib.Core.Path.{◌≡◌, refl, sym, ap, ◌∙◌}
use mathlib.Core.Logic.{◌≢◌}
use mathlib.Core.Bool.{Bool, cond}
use mathlib.Core.List.{[], List}
use lib.Dec.{eqb}
use lib.IntN.{ℤ}
use lib.ListN.{length, get_or, length-set, get_or-eq_default}
use borrow.Author.Tests.{eqb-true, eqb-false}
use Rattle.index.specs.Index.{iter}
use Rattle.index.proofs.Index.{iter_keeps}
use Rattle.index.proofs.Flags.{by_test, by_order, cond_case}
use Rattle.varint.specs.Codes.{code_of, magnitude}
use Rattle.records.specs.declared.Peer.{Peer}
use Rattle.records.specs.declared.TopicRecord.{TopicRecord}
use Rattle.records.specs.declared.Groups.{Groups}
use Rattle.records.specs.Records.{State, no_peer, no_topic, place, code_in, peer_in, topic_in, set_clock, set_joined, set_peer, set_topic, slot_count}
use Rattle.records.specs.Records.{is_connected}
use Rattle.layout.proofs.StateLaws.{peer_case, topic_case, topic_same, peer_after_topic, topic_after_peer}
use Rattle.score.specs.Counters.{first_of, near_first_of, invalid_of, grown_of, faded_of, decayed_of}
use Rattle.score.specs.Score.{topic_params_in}
use Rattle.effects.specs.Effects.{unsubscribe_backoff, prune_backoff, with_end, with_p5, with_p7, retained_to, connected_as, out_of_mesh}
use Rattle.effects.specs.Effects.{with_subscribed, on_peer, on_topic, is_joined, is_member, pruned, end_after, left_topic, departed, reclaimable}
use Rattle.effects.specs.Effects.{emptied, reclaim_slot, reclaimed}
use Rattle.effects.proofs.EffectLaws.{end_other}
use Rattle.rules.specs.Reply.{Reply, ignored, done}
use Rattle.rules.specs.Step.{is_negative, is_graylisted, is_heard, join_reply, punished, leave_slot, leave_reply, subscribe_reply, raised_p7}
use Rattle.rules.specs.Step.{unsubscribe_reply, graft_refused, seconds_of, prune_reply, delivered_of, deliver_reply, decay_floor, decay_topic}
use Rattle.rules.specs.Step.{decay_p7, decay_slot, decay_reply}
use Rattle.promises.specs.Ends.{end_in}

pub record Since (st u : State) (s t : ℕ) : Type 0 where
  pub member : (topic_in st (place s t)).member ≡ 1
  pub graft : (topic_in u (place s t)).graft ≡ (topic_in st (place s t)).graft
  pub end : end_in u s t ≤ end_in st s t

abbrev pub Calmer : State → State → Type 0
Calmer st u = (s t : ℕ) → s < slot_count → t < 8 → (topic_in u (place s t)).member ≡ 1 → Since st u s t

pub calmer_self : (st : State) → Calmer st st
calmer_self st s t h k m = record { member = m; graft = refl; end = omega arith }

pub calmer_then : {a b c : State} → Calmer a b → Calmer b c → Calmer a c
calmer_then f g s t h k m =
    let w = g s t h k m in
    let v = f s t h k w.member in
    record { member = v.member; graft = w.graft ∙ v.graft; end = omega (arith, v.end, w.end) }

-- ---- one store
module _ (st : State) where
  pub calmer_clock : (n : ℕ) → Calmer st (set_clock st n)
  unfolding set_clock peer_in topic_in
  calmer_clock n s t h k m = record { member = m; graft = refl; end = omega arith }

  pub calmer_joined : (v b : ℕ) → Calmer st (set_joined st v b)
  unfolding set_joined peer_in topic_in
  calmer_joined v b s t h k m = record { member = m; graft = refl; end = omega arith }

  pub calmer_peer :
      (i : ℕ) (p : Peer) → ((t : ℕ) → t < 8 → (topic_in st (place i t)).member ≡ 1 → get_or p.backoff t 0 ≤ end_in st i t) →
      Calmer st (set_peer st i p)
  calmer_peer i p f s t h k m =
      let e : topic_in (set_peer st i p) (place s t) ≡ topic_in st (place s t) = topic_after_peer st i p (place s t) in
      let m' : (topic_in st (place s t)).member ≡ 1 = rw e at m in
      record {
        member = m';
        graft = ap (λ (r : TopicRecord). r.graft) e;
        end =
            peer_case st (λ (q : Peer). get_or q.backoff t 0 ≤ end_in st s t) i p s
            (λ (z : s ≡ i). rw z (f t k (rw z at m')))
            (omega arith);
      }

  pub calmer_topic :
      (j : ℕ) (r : TopicRecord) → (r.member ≡ 1 → ((topic_in st j).member ≡ 1) × (r.graft ≡ (topic_in st j).graft)) →
      Calmer st (set_topic st j r)
  calmer_topic j r f s t h k m =
      let w : ((topic_in st (place s t)).member ≡ 1) × ((topic_in (set_topic st j r) (place s t)).graft ≡ (topic_in st (place s t)).graft) =
      topic_case st
      (λ (q : TopicRecord). q.member ≡ 1 → ((topic_in st (place s t)).member ≡ 1) × (q.graft ≡ (topic_in st (place s t)).graft))
      j r (place s t) (λ (z : place s t ≡ j). rw z f) (λ n. (n, refl)) m in
      let e : end_in (set_topic st j r) s t ≡ end_in st s t = ap (λ (q : Peer). get_or q.backoff t 0) (peer_after_topic st j r s) in
      record { member = w.0; graft = w.1; end = omega (arith, e) }

-- ---- a walk, and a choice
pub calmer_iter : (f : ℕ → State → State) (n : ℕ) (st : State) → ((i : ℕ) (u : State) → i < n → Calmer u (f i u)) → Calmer st (iter n f st)
calmer_iter f n st h =
    iter_keeps (λ (u : State). Calmer st u) f n st (calmer_self st) (λ i u l w. calmer_then {a = st} {b = u} {c = f i u} w (h i u l))

pub calmer_either : (st : State) (b : Bool) (u v : State) → Calmer st u → Calmer st v → Calmer st (cond b u v)
calmer_either st b u v f g = cond_case (λ (w : State). Calmer st w) b u v (λ e. f) (λ e. g)

-- ---- changes of one record
module _ (st : State) (s : ℕ) where
  calmer_p5 : (code : ℕ) → Calmer st (on_peer st s (λ p. with_p5 p code))
  unfolding with_p5
  calmer_p5 code = calmer_peer st s _ (λ t k m. omega arith)

  pub calmer_p7 : (n : ℕ) → Calmer st (on_peer st s (λ p. with_p7 p n))
  unfolding with_p7
  calmer_p7 n = calmer_peer st s _ (λ t k m. omega arith)

  pub calmer_connected : (id : ℕ) (groups : Groups) (flags version : ℕ) →
      Calmer st (on_peer st s (λ p. connected_as p id groups flags version))
  unfolding connected_as
  calmer_connected id groups flags version = calmer_peer st s _ (λ t k m. omega arith)

  -- a backoff of who is no member, in a record that may have other numbers too
  calmer_with_end :
      (p : Peer) (t end : ℕ) → p.backoff ≡ (peer_in st s).backoff → (topic_in st (place s t)).member ≢ 1 →
      Calmer st (set_peer st s (with_end p t end))
  calmer_with_end p t end same n =
      calmer_peer st s _ (λ v k m.
      by_test _ (eqb v t)
      (λ e. absurd (n (rw (eqb-true v t e) at m)))
      (λ e. let q = end_other p t end v (eqb-false v t e) in let w = ap (λ (b : List ℕ). get_or b v 0) same in omega (arith, q, w)))

  pub calmer_end : (t end : ℕ) → (topic_in st (place s t)).member ≢ 1 → Calmer st (on_peer st s (λ p. with_end p t end))
  calmer_end t end n = calmer_with_end (peer_in st s) t end refl n

  calmer_on :
      (t : ℕ) (g : TopicRecord → TopicRecord) → ((r : TopicRecord) → (g r).member ≡ 1 → (r.member ≡ 1) × ((g r).graft ≡ r.graft)) →
      Calmer st (on_topic st s t g)
  calmer_on t g h = calmer_topic st (place s t) _ (h (topic_in st (place s t)))

  -- who was taken out is out
  out_member : (t : ℕ) → (topic_in (on_topic st s t out_of_mesh) (place s t)).member ≢ 1
  unfolding out_of_mesh topic_in set_topic
  out_member t m =
      by_order _ (place s t) (length st.topics)
      (λ l.
      let e = topic_same st (place s t) (out_of_mesh (topic_in st (place s t))) l in
      omega (arith, m, ap (λ (r : TopicRecord). r.member) e))
      (λ l.
      let z = length-set st.topics (place s t) (out_of_mesh (topic_in st (place s t))) in
      let e = get_or-eq_default (on_topic st s t out_of_mesh).topics no_topic {n = place s t} (omega (arith, z, l)) in
      omega (arith, m, ap (λ (r : TopicRecord). r.member) e))

calmer_out : (st : State) (s t : ℕ) → Calmer st (on_topic st s t out_of_mesh)
unfolding out_of_mesh
calmer_out st s t = calmer_on st s t out_of_mesh (λ r m. absurd (omega arith))

pub calmer_pruned : (st : State) (s t end : ℕ) → Calmer st (pruned st s t end)
unfolding pruned
calmer_pruned st s t end =
    calmer_then {a = st} {b = on_topic st s t out_of_mesh} {c = pruned st s t end}
    (calmer_out st s t)
    (calmer_end (on_topic st s t out_of_mesh) s t end (out_member st s t))

-- ---- what a call's walks are made of
pub calmer_punished : (st : State) (t s : ℕ) (u : State) → Calmer u (punished st t s u)
unfolding punished grown_of
calmer_punished st t s u =
    calmer_either u (is_negative st s) _ u (calmer_on u s t (grown_of (topic_params_in st t)) (λ r m. (m, refl))) (calmer_self u)

calmer_left : (st : State) (t end s : ℕ) (u : State) → Calmer u (leave_slot st t end s u)
unfolding leave_slot
calmer_left st t end s u =
    calmer_either u (is_member st t s) _ u
    (calmer_then {a = u} {b = punished st t s u} {c = pruned (punished st t s u) s t end}
    (calmer_punished st t s u) (calmer_pruned (punished st t s u) s t end))
    (calmer_self u)

-- out of the mesh, and not subscribed
abbrev gone : TopicRecord → TopicRecord
gone r = with_subscribed (out_of_mesh r) 0

calmer_departed : (st : State) (s time : ℕ) → Calmer st (departed st s time)
unfolding departed left_topic with_subscribed out_of_mesh retained_to
calmer_departed st s time =
    let w = iter 8 (λ t u. left_topic u s t) st in
    calmer_then {a = st} {b = w} {c = departed st s time}
    (calmer_iter (λ t u. left_topic u s t) 8 st (λ t u h. calmer_on u s t gone (λ r m. absurd (omega arith))))
    (calmer_peer w s _ (λ t k m. omega arith))

no_end : (t : ℕ) → t < 8 → get_or no_peer.backoff t 0 ≡ 0
no_end zero h = refl
no_end (suc zero) h = refl
no_end (suc (suc zero)) h = refl
no_end (suc (suc (suc zero))) h = refl
no_end (suc (suc (suc (suc zero)))) h = refl
no_end (suc (suc (suc (suc (suc zero))))) h = refl
no_end (suc (suc (suc (suc (suc (suc zero)))))) h = refl
no_end (suc (suc (suc (suc (suc (suc (suc zero))))))) h = refl
no_end (suc (suc (suc (suc (suc (suc (suc (suc t)))))))) h = absurd (omega arith)

calmer_emptied : (st : State) (s : ℕ) → Calmer st (emptied st s)
unfolding emptied
calmer_emptied st s =
    let w = iter 8 (λ t u. set_topic u (place s t) no_topic) st in
    calmer_then {a = st} {b = w} {c = emptied st s}
    (calmer_iter (λ t u. set_topic u (place s t) no_topic) 8 st (λ t u h. calmer_topic u (place s t) no_topic (λ m. absurd (omega arith))))
    (calmer_peer w s no_peer (λ t k m. omega (arith, no_end t k)))

pub calmer_reclaimed : (st : State) (time : ℕ) → Calmer st (reclaimed st time)
unfolding reclaimed reclaim_slot
calmer_reclaimed st time =
    calmer_iter (reclaim_slot time) slot_count st (λ s u h.
    calmer_either u (reclaimable (peer_in u s) time) (emptied u s) u (calmer_emptied u s) (calmer_self u))

calmer_faded : (s : ℕ) (st : State) → Calmer st (decay_p7 s st)
unfolding decay_p7
calmer_faded s st = calmer_p7 st s (faded_of (decay_floor st) (magnitude (code_in st 17)) (peer_in st s).p7)

calmer_decayed : (time s : ℕ) (st : State) → Calmer st (decay_slot time s st)
unfolding decay_slot decay_topic decayed_of
calmer_decayed time s st =
    let w = iter 8 (decay_topic time s) st in
    calmer_either st (is_connected (peer_in st s)) (decay_p7 s w) st
    (calmer_then {a = st} {b = w} {c = decay_p7 s w}
    (calmer_iter (decay_topic time s) 8 st (λ t u h.
    calmer_on u s t (decayed_of (topic_params_in u t) (decay_floor u) time) (λ r m. (m, refl))))
    (calmer_faded s w))
    (calmer_self st)

-- ---- the calls
module _ (st : State) (time : ℕ) where
  -- the clock moves last
  pub calmer_moved : (u : State) → Calmer st u → Calmer st (set_clock u time)
  calmer_moved u f = calmer_then {a = st} {b = u} {c = set_clock u time} f (calmer_clock u time)

  either : (b : Bool) (o q : Reply) → Calmer st o.state → Calmer st q.state → Calmer st (cond b o q).state
  either b o q f g = cond_case (λ (r : Reply). Calmer st r.state) b o q (λ e. f) (λ e. g)

  pub calmer_still : Calmer st (set_clock st time)
  calmer_still = calmer_clock st time

  pub calmer_disconnect : (s : ℕ) → Calmer st (done (departed st s time) time []).state
  calmer_disconnect s = calmer_moved (departed st s time) (calmer_departed st s time)

  pub calmer_join : (t : ℕ) → Calmer st (join_reply st time t).state
  unfolding join_reply
  calmer_join t = either (is_joined st t) (ignored st time) _ calmer_still (calmer_moved (set_joined st t 1) (calmer_joined st t 1))

  pub calmer_leave : (t : ℕ) → Calmer st (leave_reply st time t).state
  unfolding leave_reply
  calmer_leave t =
      let end = end_after time (unsubscribe_backoff st) in
      let w = iter slot_count (leave_slot st t end) st in
      either (is_joined st t) _ (ignored st time)
      (calmer_moved (set_joined w t 0)
      (calmer_then {a = st} {b = w} {c = set_joined w t 0}
      (calmer_iter (leave_slot st t end) slot_count st (λ s u h. calmer_left st t end s u)) (calmer_joined w t 0)))
      calmer_still

  pub calmer_rate : (p5 : ℤ) (s : ℕ) → Calmer st (done (on_peer st s (λ p. with_p5 p (code_of p5))) time []).state
  calmer_rate p5 s = calmer_moved (on_peer st s (λ p. with_p5 p (code_of p5))) (calmer_p5 st s (code_of p5))

  pub calmer_decay : Calmer st (decay_reply st time).state
  unfolding decay_reply
  calmer_decay =
      calmer_moved (iter slot_count (decay_slot time) st) (calmer_iter (decay_slot time) slot_count st (λ s u h. calmer_decayed time s u))

  module _ (t s : ℕ) where
    pub calmer_subscribe : Calmer st (subscribe_reply st time t s).state
    unfolding subscribe_reply with_subscribed
    calmer_subscribe =
        either (is_graylisted st s) (ignored st time) (done (on_topic st s t (λ r. with_subscribed r 1)) time [])
        calmer_still
        (calmer_moved (on_topic st s t (λ r. with_subscribed r 1)) (calmer_on st s t (λ r. with_subscribed r 1) (λ r m. (m, refl))))

    pub calmer_unsubscribe : Calmer st (unsubscribe_reply st time t s).state
    unfolding unsubscribe_reply with_subscribed out_of_mesh
    calmer_unsubscribe =
        either (is_graylisted st s) (ignored st time) (done (on_topic st s t gone) time [])
        calmer_still
        (calmer_moved (on_topic st s t gone) (calmer_on st s t gone (λ r m. absurd (omega arith))))

    pub calmer_prune : (seconds : ℕ) → Calmer st (prune_reply st time t seconds s).state
    unfolding prune_reply
    calmer_prune seconds =
        let end = end_after time (seconds_of st seconds) in
        either (is_heard st t s) _ (ignored st time)
        (calmer_moved (pruned st s t end) (calmer_pruned st s t end))
        calmer_still

    delivered : (kind : ℕ) (r : TopicRecord) →
        ((delivered_of kind (topic_params_in st t) r).member ≡ r.member) × ((delivered_of kind (topic_params_in st t) r).graft ≡ r.graft)
    unfolding delivered_of first_of near_first_of invalid_of
    delivered kind r =
        let x = topic_params_in st t in
        cond_case (λ (q : TopicRecord). (q.member ≡ r.member) × (q.graft ≡ r.graft)) (eqb kind 1) (first_of x r) _ (λ e. (refl, refl))
        (λ e.
        cond_case (λ (q : TopicRecord). (q.member ≡ r.member) × (q.graft ≡ r.graft)) (eqb kind 2) (near_first_of x r) (invalid_of r)
        (λ f. (refl, refl)) (λ f. (refl, refl)))

    pub calmer_deliver : (kind : ℕ) → Calmer st (deliver_reply st time t kind s).state
    unfolding deliver_reply
    calmer_deliver kind =
        let g = delivered_of kind (topic_params_in st t) in
        either (is_heard st t s) (done (on_topic st s t (delivered_of kind (topic_params_in st t))) time []) (ignored st time)
        (calmer_moved (on_topic st s t g) (calmer_on st s t g (λ r m. (sym (delivered kind r).0 ∙ m, (delivered kind r).1))))
        calmer_still

-- ---- a GRAFT of no member that is answered by a PRUNE
module _ (st : State) (time t s : ℕ) (n : (topic_in st (place s t)).member ≢ 1) where
  pub calmer_refused : Calmer st (graft_refused st time t s (peer_in st s)).state
  unfolding graft_refused
  calmer_refused =
      let end = end_after time (prune_backoff st) in
      calmer_moved st time (on_peer st s (λ p. with_end p t end)) (calmer_end st s t end n)

  pub calmer_raised : Calmer st (graft_refused st time t s (raised_p7 (peer_in st s))).state
  unfolding graft_refused raised_p7 with_p7
  calmer_raised =
      calmer_moved st time (set_peer st s _) (calmer_with_end st s (raised_p7 (peer_in st s)) t (end_after time (prune_backoff st)) refl n)
