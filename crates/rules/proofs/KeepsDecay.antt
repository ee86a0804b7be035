-- "Each call keeps this so": delivery and decay.
-- Assumes nothing.
use Prim.Native.Nat.{ℕ, ◌<◌, ◌≤◌}
use native.Mathlib.Omega.{arith}
use mathlib.Core.Path.{◌≡◌, ◌∙◌}
use lib.Dec.{eqb}
use borrow.Author.Tests.{eqb-true, ne_eqb}
use Rattle.index.specs.Index.{iter}
use Rattle.index.proofs.Index.{iter_keeps}
use Rattle.index.proofs.Flags.{cond_case}
use Rattle.records.specs.declared.TopicRecord.{TopicRecord}
use Rattle.records.specs.Records.{State, place, code_in, peer_in, topic_in, set_clock, is_connected, slot_count}
use Rattle.validity.specs.Valid.{topic_param}
use Rattle.score.specs.declared.TopicParams.{TopicParams}
use Rattle.score.specs.Ranges.{TopicParamsIn, CountersWithin}
use Rattle.score.specs.Counters.{with_counters, first_of, near_first_of, invalid_of, faded_of, mesh_of, decayed_of}
use Rattle.score.specs.Score.{topic_params_in}
use Rattle.score.proofs.CounterLaws.{faded_less, first_within, near_first_within, invalid_within, decayed_within, decayed_mesh}
use Rattle.score.proofs.InputLaws.{params_in}
use Rattle.varint.specs.Codes.{magnitude}
use Rattle.rules.specs.Reply.{ignored}
use Rattle.rules.specs.Step.{is_heard, delivered_of, deliver_reply, decay_floor, decay_topic, decay_p7, decay_slot, decay_reply}
use Rattle.rules.proofs.KeepsRecord.{topic_counters, topic_counted}
use Rattle.rules.proofs.KeepsState.{Router, RouterAt, Fits, router_end, latest, peer_of, topic_of, params_of, router_topic}
use Rattle.rules.proofs.KeepsState.{router_p7, Walked, walk_none, walk_topic, either}

-- the counters of a connected slot's topic record, and the parameters that they go by
module _ (time : ℕ) (st : State) (g : RouterAt time st) (s : ℕ) (h : s < slot_count) (on : (peer_in st s).status ≡ 1) (t : ℕ) (k : t < 8) where
  abbrev r : TopicRecord
  r = topic_in st (place s t)

  abbrev params : TopicParams
  params = topic_params_in st t

  fits : Fits time st s t r
  fits = topic_of time st g s t h k

  ranges : TopicParamsIn params
  unfolding set_clock topic_params_in code_in
  ranges = params_in (set_clock st time) (router_end time st g).router t k

  within : CountersWithin params r
  unfolding topic_params_in topic_param
  within = record { p2 = fits.p2; p3 = fits.p3; p4 = fits.p4; p3b = fits.p3b }

  -- ---- delivery
  counted :
      (p2 p3 p4 p3b : ℕ) →
      CountersWithin params (with_counters r p2 p3 p4 p3b r.mesh) →
      Fits time st s t (with_counters r p2 p3 p4 p3b r.mesh)
  unfolding topic_params_in topic_param
  counted p2 p3 p4 p3b w =
      topic_counted _ _ _ _ _ _ r fits on p2 p3 p4 p3b w.p2 w.p3 w.p4 w.p3b (latest time st g)

  delivered : (kind : ℕ) → Fits time st s t (delivered_of kind params r)
  unfolding delivered_of first_of near_first_of invalid_of
  delivered kind =
      cond_case (λ (q : TopicRecord). Fits time st s t q) (eqb kind 1) (first_of params r) _
      (λ e. counted _ _ _ _ (first_within params r within))
      (λ e.
      cond_case (λ (q : TopicRecord). Fits time st s t q) (eqb kind 2) (near_first_of params r) (invalid_of r)
      (λ e. counted _ _ _ _ (near_first_within params r within))
      (λ e. counted _ _ _ _ (invalid_within params r within)))

  pub keeps_deliver : (kind : ℕ) → Router (deliver_reply st time t kind s).state
  unfolding deliver_reply
  keeps_deliver kind =
      either (is_heard st t s) _ (ignored st time)
      (λ e. router_end time _ (router_topic time st g s t _ k (delivered kind)))
      (λ e. router_end time st g)

  -- ---- decay, one topic
  mesh_none : (r.member ≡ 1 → ⊥) → mesh_of time r ≡ 0
  unfolding mesh_of
  mesh_none n = rw (ne_eqb r.member 1 n) (fits.outside n).1

  decayed : (floor : ℕ) → Fits time st s t (decayed_of params floor time r)
  unfolding decayed_of topic_params_in topic_param
  decayed floor =
      let w = decayed_within params r within floor time ranges in
      topic_counters _ _ _ _ _ _ r fits on _ _ _ _ (mesh_of time r) w.p2 w.p3 w.p4 w.p3b (latest time st g) mesh_none
      (decayed_mesh params r floor time fits.times)

-- ---- decay, one slot
module _ (time : ℕ) (s : ℕ) (h : s < slot_count) where
  walked : (u : State) → RouterAt time u → (peer_in u s).status ≡ 1 → Walked time u (iter 8 (decay_topic time s) u)
  unfolding decay_topic
  walked u g on =
      iter_keeps (λ (v : State). Walked time u v) (decay_topic time s) 8 u (walk_none time u g) (λ t v k w.
      walk_topic time u v w s t _ k (decayed time v w.at s h (w.status s ∙ on) t k (decay_floor v)))

  router_faded : (u : State) → RouterAt time u → (peer_in u s).status ≡ 1 → RouterAt time (decay_p7 s u)
  unfolding decay_p7 code_in
  router_faded u g on =
      let floor = decay_floor u in
      let factor = magnitude (code_in u 17) in
      let n = faded_of floor factor (peer_in u s).p7 in
      let f : factor ≤ 1000 = omega (arith, (params_of time u g).p7_decay_most) in
      let b : n ≤ 1000000 = omega (arith, faded_less floor factor (peer_in u s).p7 f, (peer_of time u g s h).p7) in
      router_p7 time u g s h on n b

  router_slot : (u : State) → RouterAt time u → RouterAt time (decay_slot time s u)
  unfolding decay_slot
  router_slot u g =
      cond_case (λ (v : State). RouterAt time v) (is_connected (peer_in u s)) (decay_p7 s (iter 8 (decay_topic time s) u)) u
      (λ e.
      let on = eqb-true (peer_in u s).status 1 e in
      let w = walked u g on in
      router_faded (iter 8 (decay_topic time s) u) w.at (w.status s ∙ on))
      (λ e. g)

pub keeps_decay : (time : ℕ) (st : State) → RouterAt time st → Router (decay_reply st time).state
unfolding decay_reply
keeps_decay time st g =
    router_end time (iter slot_count (decay_slot time) st)
    (iter_keeps (λ (v : State). RouterAt time v) (decay_slot time) slot_count st g (λ s u h. router_slot time s h u))
