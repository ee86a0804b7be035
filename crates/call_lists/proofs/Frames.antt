-- The calls that take nobody into a mesh and connect nobody: what each leaves has no more members and no more connected peers than what it
-- was given. Of connect the reclaiming, and of GRAFT every end but the one that takes the peer in.
-- Assumes nothing.
use Prim.Native.Nat.{ℕ}
use native.Mathlib.Omega.{arith}
use mathlib.Core.Path.{◌≡◌, refl, sym, ◌∙◌}
use mathlib.Core.Bool.{Bool, cond}
use mathlib.Core.List.{[]}
use lib.Dec.{eqb}
use lib.IntN.{ℤ}
use Rattle.index.specs.Index.{iter}
use Rattle.index.proofs.Flags.{cond_case}
use Rattle.varint.specs.Codes.{code_of, magnitude}
use Rattle.records.specs.declared.TopicRecord.{TopicRecord}
use Rattle.records.specs.Records.{State, no_peer, no_topic, place, code_in, peer_in, topic_in, set_clock, set_topic, is_connected, slot_count}
use Rattle.score.specs.Counters.{first_of, near_first_of, invalid_of, grown_of, faded_of, decayed_of}
use Rattle.score.specs.Score.{topic_params_in}
use Rattle.effects.specs.Effects.{unsubscribe_backoff, prune_backoff, with_end, with_p5, with_p7, retained_to, out_of_mesh}
use Rattle.effects.specs.Effects.{with_subscribed, on_peer, on_topic, is_joined, is_member, pruned, end_after, left_topic, departed, reclaimable}
use Rattle.effects.specs.Effects.{emptied, reclaim_slot, reclaimed}
use Rattle.rules.specs.Reply.{Reply, ignored, done}
use Rattle.rules.specs.Step.{is_negative, is_graylisted, is_heard, join_reply, punished, leave_slot, leave_reply, subscribe_reply}
use Rattle.rules.specs.Step.{unsubscribe_reply, graft_refused, raised_p7, seconds_of, prune_reply, delivered_of, deliver_reply, decay_floor}
use Rattle.rules.specs.Step.{decay_topic, decay_p7, decay_slot, decay_reply}
use Rattle.call_lists.proofs.Fewer.{Fewer, fewer_self, fewer_then, fewer_clock, fewer_joined, fewer_peer, fewer_topic, fewer_iter}
use Rattle.call_lists.proofs.Fewer.{fewer_either}

-- ---- changes of one record
module _ (st : State) (s : ℕ) where
  fewer_end : (t end : ℕ) → Fewer st (on_peer st s (λ p. with_end p t end))
  unfolding with_end
  fewer_end t end = fewer_peer st s _ (λ on. record { status = on; id = refl; outbound = refl })

  fewer_p5 : (code : ℕ) → Fewer st (on_peer st s (λ p. with_p5 p code))
  unfolding with_p5
  fewer_p5 code = fewer_peer st s _ (λ on. record { status = on; id = refl; outbound = refl })

  fewer_p7 : (n : ℕ) → Fewer st (on_peer st s (λ p. with_p7 p n))
  unfolding with_p7
  fewer_p7 n = fewer_peer st s _ (λ on. record { status = on; id = refl; outbound = refl })

  -- a record with the membership that it had, or with none
  fewer_on : (t : ℕ) (g : TopicRecord → TopicRecord) → ((r : TopicRecord) → (g r).member ≡ 1 → r.member ≡ 1) → Fewer st (on_topic st s t g)
  fewer_on t g h = fewer_topic st (place s t) _ (h (topic_in st (place s t)))

fewer_pruned : (st : State) (s t end : ℕ) → Fewer st (pruned st s t end)
unfolding pruned out_of_mesh
fewer_pruned st s t end =
    fewer_then (fewer_on st s t out_of_mesh (λ r m. absurd (omega arith))) (fewer_end (on_topic st s t out_of_mesh) s t end)

-- ---- what a call's walks are made of
fewer_punished : (st : State) (t s : ℕ) (u : State) → Fewer u (punished st t s u)
unfolding punished grown_of
fewer_punished st t s u = fewer_either u (is_negative st s) _ u (fewer_on u s t (grown_of (topic_params_in st t)) (λ r m. m)) (fewer_self u)

fewer_left : (st : State) (t end s : ℕ) (u : State) → Fewer u (leave_slot st t end s u)
unfolding leave_slot
fewer_left st t end s u =
    fewer_either u (is_member st t s) _ u
    (fewer_then (fewer_punished st t s u) (fewer_pruned (punished st t s u) s t end))
    (fewer_self u)

-- out of the mesh, and not subscribed
abbrev gone : TopicRecord → TopicRecord
gone r = with_subscribed (out_of_mesh r) 0

fewer_departed : (st : State) (s time : ℕ) → Fewer st (departed st s time)
unfolding departed left_topic with_subscribed out_of_mesh retained_to
fewer_departed st s time =
    fewer_then
    (fewer_iter (λ t u. left_topic u s t) 8 st (λ t u h. fewer_on u s t gone (λ r m. absurd (omega arith))))
    (fewer_peer (iter 8 (λ t u. left_topic u s t) st) s _ (λ on. absurd (omega arith)))

fewer_emptied : (st : State) (s : ℕ) → Fewer st (emptied st s)
unfolding emptied
fewer_emptied st s =
    fewer_then
    (fewer_iter (λ t u. set_topic u (place s t) no_topic) 8 st (λ t u h. fewer_topic u (place s t) no_topic (λ m. absurd (omega arith))))
    (fewer_peer (iter 8 (λ t u. set_topic u (place s t) no_topic) st) s no_peer (λ on. absurd (omega arith)))

pub fewer_reclaimed : (st : State) (time : ℕ) → Fewer st (reclaimed st time)
unfolding reclaimed reclaim_slot
fewer_reclaimed st time =
    fewer_iter (reclaim_slot time) slot_count st (λ s u h.
    fewer_either u (reclaimable (peer_in u s) time) (emptied u s) u (fewer_emptied u s) (fewer_self u))

fewer_faded : (s : ℕ) (st : State) → Fewer st (decay_p7 s st)
unfolding decay_p7
fewer_faded s st = fewer_p7 st s (faded_of (decay_floor st) (magnitude (code_in st 17)) (peer_in st s).p7)

fewer_decayed : (time s : ℕ) (st : State) → Fewer st (decay_slot time s st)
unfolding decay_slot decay_topic decayed_of
fewer_decayed time s st =
    let w = iter 8 (decay_topic time s) st in
    fewer_either st (is_connected (peer_in st s)) (decay_p7 s w) st
    (fewer_then
    (fewer_iter (decay_topic time s) 8 st (λ t u h.
    fewer_on u s t (decayed_of (topic_params_in u t) (decay_floor u) time) (λ r m. m)))
    (fewer_faded s w))
    (fewer_self st)

-- ---- the calls
module _ (st : State) (time : ℕ) where
  -- the clock moves last
  moved : {u : State} → Fewer st u → Fewer st (set_clock u time)
  moved {u} f = fewer_then f (fewer_clock u time)

  either : (b : Bool) (o q : Reply) → Fewer st o.state → Fewer st q.state → Fewer st (cond b o q).state
  either b o q f g = cond_case (λ (r : Reply). Fewer st r.state) b o q (λ e. f) (λ e. g)

  pub fewer_still : Fewer st (set_clock st time)
  fewer_still = fewer_clock st time

  pub fewer_disconnect : (s : ℕ) → Fewer st (done (departed st s time) time []).state
  fewer_disconnect s = moved (fewer_departed st s time)

  pub fewer_join : (t : ℕ) → Fewer st (join_reply st time t).state
  unfolding join_reply
  fewer_join t = either (is_joined st t) (ignored st time) _ fewer_still (moved (fewer_joined st t 1))

  pub fewer_leave : (t : ℕ) → Fewer st (leave_reply st time t).state
  unfolding leave_reply
  fewer_leave t =
      let end = end_after time (unsubscribe_backoff st) in
      let w = iter slot_count (leave_slot st t end) st in
      either (is_joined st t) _ (ignored st time)
      (moved (fewer_then (fewer_iter (leave_slot st t end) slot_count st (λ s u h. fewer_left st t end s u)) (fewer_joined w t 0)))
      fewer_still

  pub fewer_rate : (p5 : ℤ) (s : ℕ) → Fewer st (done (on_peer st s (λ p. with_p5 p (code_of p5))) time []).state
  fewer_rate p5 s = moved (fewer_p5 st s (code_of p5))

  pub fewer_decay : Fewer st (decay_reply st time).state
  unfolding decay_reply
  fewer_decay = moved (fewer_iter (decay_slot time) slot_count st (λ s u h. fewer_decayed time s u))

  module _ (t s : ℕ) where
    pub fewer_subscribe : Fewer st (subscribe_reply st time t s).state
    unfolding subscribe_reply with_subscribed
    fewer_subscribe =
        either (is_graylisted st s) (ignored st time) (done (on_topic st s t (λ r. with_subscribed r 1)) time [])
        fewer_still
        (moved (fewer_on st s t (λ r. with_subscribed r 1) (λ r m. m)))

    pub fewer_unsubscribe : Fewer st (unsubscribe_reply st time t s).state
    unfolding unsubscribe_reply with_subscribed out_of_mesh
    fewer_unsubscribe =
        either (is_graylisted st s) (ignored st time) (done (on_topic st s t gone) time [])
        fewer_still
        (moved (fewer_on st s t gone (λ r m. absurd (omega arith))))

    pub fewer_prune : (seconds : ℕ) → Fewer st (prune_reply st time t seconds s).state
    unfolding prune_reply
    fewer_prune seconds =
        either (is_heard st t s) _ (ignored st time) (moved (fewer_pruned st s t (end_after time (seconds_of st seconds)))) fewer_still

    delivered : (kind : ℕ) (r : TopicRecord) → (delivered_of kind (topic_params_in st t) r).member ≡ r.member
    unfolding delivered_of first_of near_first_of invalid_of
    delivered kind r =
        let x = topic_params_in st t in
        cond_case (λ (q : TopicRecord). q.member ≡ r.member) (eqb kind 1) (first_of x r) _ (λ e. refl) (λ e.
        cond_case (λ (q : TopicRecord). q.member ≡ r.member) (eqb kind 2) (near_first_of x r) (invalid_of r) (λ f. refl) (λ f. refl))

    pub fewer_deliver : (kind : ℕ) → Fewer st (deliver_reply st time t kind s).state
    unfolding deliver_reply
    fewer_deliver kind =
        either (is_heard st t s) (done (on_topic st s t (delivered_of kind (topic_params_in st t))) time []) (ignored st time)
        (moved (fewer_on st s t (delivered_of kind (topic_params_in st t)) (λ r m. sym (delivered kind r) ∙ m)))
        fewer_still

-- ---- a GRAFT that is answered by a PRUNE
module _ (st : State) (time t s : ℕ) where
  pub fewer_refused : Fewer st (graft_refused st time t s (peer_in st s)).state
  unfolding graft_refused
  fewer_refused = moved st time (fewer_end st s t (end_after time (prune_backoff st)))

  pub fewer_raised : Fewer st (graft_refused st time t s (raised_p7 (peer_in st s))).state
  unfolding graft_refused raised_p7 with_p7 with_end
  fewer_raised = moved st time (fewer_peer st s _ (λ on. record { status = on; id = refl; outbound = refl }))
