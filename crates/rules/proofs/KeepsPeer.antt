-- "Each call keeps this so": connect, disconnect, rate, score.
-- Assumes nothing.
use Rattle.std.proofs.Common.{Some, None}
use Rattle.rules.proofs.ConnectLaws.{by_connect}
use Prim.Native.Nat.{ℕ, ◌/◌, ◌<◌, ◌≤◌}
use native.Mathlib.Omega.{arith}
use mathlib.Core.Bool.{true}
use mathlib.Core.Path.{◌≡◌, refl, sym, ap, ◌∙◌}
use mathlib.Core.Logic.{◌≢◌}
use mathlib.Core.List.{List, []}
use lib.IntN.{ℤ, nat_abs}
use Rattle.index.specs.Index.{iter}
use Rattle.index.proofs.Index.{iter_keeps}
use Rattle.index.proofs.Flags.{by_test, cond_case}
use Rattle.varint.specs.Codes.{code_of}
use Rattle.records.specs.declared.Groups.{Groups}
use Rattle.records.specs.declared.Peer.{Peer}
use Rattle.records.specs.declared.TopicRecord.{TopicRecord}
use Rattle.records.specs.Records.{State, no_peer, no_topic, place, joined_in, peer_in, topic_in, set_peer, set_topic, slot_count}
use Rattle.layout.proofs.StateLaws.{topic_after_peer}
use Rattle.validity.specs.Valid.{max_id, rising_ok}
use Rattle.lookup.specs.Find.{find_connected, find_retained, lowest_empty}
use Rattle.lookup.proofs.NameLaws.{version_small}
use Rattle.lookup.proofs.FindLaws.{retained_at, empty_at, none_connected, none_retained}
use Rattle.validity.proofs.ValidLaws.{no_peer_lem, no_topic_lem, zero_is}
use Rattle.effects.specs.Effects.{with_p5, connected_as, retained_to, with_subscribed, out_of_mesh, left_topic, departed, end_after, retain_seconds}
use Rattle.effects.specs.Effects.{reclaimable, emptied, reclaim_slot, reclaimed, on_peer}
use Rattle.effects.proofs.EffectLaws.{departed_topic, emptied_topic, reclaimed_peer}
use Rattle.rules.specs.Reply.{done, Reply}
use Rattle.rules.specs.Step.{connect_at, connect_reply}
use Rattle.rules.proofs.KeepsRecord.{topic_left, topic_under, peer_p5, peer_retained, peer_connected, p5_code}
use Rattle.rules.proofs.KeepsState.{Router, RouterAt, router_end, peer_of, topic_of, ids_of, retain_most, router_topic, router_peer}
use Rattle.rules.proofs.KeepsState.{router_same_id, router_numbers, Walked, walk_none, walk_topic}

-- ---- rate
pub keeps_rate :
    (time : ℕ) (st : State) →
    RouterAt time st →
    (s : ℕ) →
    s < slot_count →
    (peer_in st s).status ≡ 1 →
    (p5 : ℤ) →
    nat_abs p5 ≤ 1000000000 →
    Router (done (on_peer st s (λ p. with_p5 p (code_of p5))) time []).state
unfolding with_p5
keeps_rate time st g s h on p5 b =
    router_end time (on_peer st s (λ p. with_p5 p (code_of p5)))
    (router_numbers time st g s (with_p5 (peer_in st s) (code_of p5)) (g.size.ends s)
    (peer_p5 time (peer_in st s) (peer_of time st g s h) on (code_of p5) (p5_code p5 b))
    h refl refl refl)

-- ---- disconnect
module _ (time : ℕ) (st : State) (g : RouterAt time st) (s : ℕ) (h : s < slot_count) (on : (peer_in st s).status ≡ 1) where
  abbrev left : State
  left = iter 8 (λ t u. left_topic u s t) st

  walked : Walked time st left
  unfolding left_topic
  walked =
      iter_keeps (λ (u : State). Walked time st u) (λ t u. left_topic u s t) 8 st (walk_none time st g) (λ t u k w.
      walk_topic time st u w s t _ k (topic_left _ _ _ _ _ _ (topic_in u (place s t)) (topic_of time u w.at s t h k)))

  left_topic_lem : (t : ℕ) → t < 8 → topic_in left (place s t) ≡ with_subscribed (out_of_mesh (topic_in st (place s t))) 0
  unfolding departed
  left_topic_lem t k = sym (topic_after_peer left s _ (place s t)) ∙ departed_topic st s time g.size h t k

  left_none : (t : ℕ) → t < 8 → ((topic_in left (place s t)).subscribed ≡ 0) × ((topic_in left (place s t)).member ≡ 0)
  unfolding with_subscribed out_of_mesh
  left_none t k =
      (ap (λ (r : TopicRecord). r.subscribed) (left_topic_lem t k), ap (λ (r : TopicRecord). r.member) (left_topic_lem t k))

  pub keeps_disconnect : Router (done (departed st s time) time []).state
  unfolding departed retained_to
  keeps_disconnect =
      let end = end_after time (retain_seconds st) in
      let p = retained_to (peer_in left s) end in
      router_end time (set_peer left s p)
      (router_same_id time left walked.at s p (walked.at.size.ends s)
      (peer_retained time (peer_in left s) (peer_of time left walked.at s h) (walked.status s ∙ on) end (retain_most time st g))
      h
      refl
      (λ t k.
      let n = left_none t k in
      topic_under _ _ _ _ _ _ (topic_in left (place s t)) (topic_of time left walked.at s t h k) 2 (peer_in left s).explicit
      (joined_in left t)
      (λ e. absurd (omega arith))
      (λ e. n)
      (λ e. absurd (omega arith))))

-- ---- connect: reclaiming
module _ (time : ℕ) (s : ℕ) (h : s < slot_count) (u : State) (g : RouterAt time u) where
  abbrev cleared : State
  cleared = iter 8 (λ t v. set_topic v (place s t) no_topic) u

  cleared_router : RouterAt time cleared
  cleared_router =
      iter_keeps (λ (v : State). RouterAt time v) (λ t v. set_topic v (place s t) no_topic) 8 u g (λ t v k w.
      router_topic time v w s t no_topic k (no_topic_lem _ _ _ _ _ _))

  cleared_topic : (t : ℕ) → t < 8 → topic_in cleared (place s t) ≡ no_topic
  unfolding emptied
  cleared_topic t k = sym (topic_after_peer cleared s no_peer (place s t)) ∙ emptied_topic u s g.size h t k

  router_emptied : RouterAt time (emptied u s)
  unfolding emptied
  router_emptied =
      router_peer time cleared cleared_router s no_peer refl (no_peer_lem time)
      (λ t k. rw (cleared_topic t k) (no_topic_lem _ _ _ _ _ _))
      (λ k l n q. refl)

  router_reclaim : RouterAt time (reclaim_slot time s u)
  unfolding reclaim_slot
  router_reclaim =
      cond_case (λ (v : State). RouterAt time v) (reclaimable (peer_in u s) time) (emptied u s) u (λ e. router_emptied) (λ e. g)

router_reclaimed : (time : ℕ) (st : State) → RouterAt time st → RouterAt time (reclaimed st time)
unfolding reclaimed
router_reclaimed time st g =
    iter_keeps (λ (v : State). RouterAt time v) (reclaim_slot time) slot_count st g (λ s u h w. router_reclaim time s h u w)

-- ---- connect: a slot that was retained or empty, with an id that no other slot holds
module _
    (time : ℕ)
    (id : ℕ) (groups : Groups) (flags version : ℕ)
    (least : 1 ≤ id)
    (most : id ≤ max_id)
    (rising : rising_ok groups ≡ true)
    (one : 1 ≤ groups.first)
    (few : flags ≤ 3)
    (known : version ≤ 2)
  where
    module _ (u : State) (g : RouterAt time u) where
      connect_at_lem :
          (s : ℕ) →
          s < slot_count →
          ((peer_in u s).status ≡ 1 → ⊥) →
          ((k : ℕ) → k < slot_count → k ≢ s → (peer_in u k).id ≡ id → id ≡ 0) →
          Router (connect_at u time id groups flags version s).state
      unfolding connect_at connected_as
      connect_at_lem s h off new =
          let p = connected_as (peer_in u s) id groups flags version in
          router_end time (set_peer u s p)
          (router_peer time u g s p (g.size.ends s)
          (peer_connected time (peer_in u s) (peer_of time u g s h) id groups flags version least most rising one few known)
          (λ t k.
          let f = topic_of time u g s t h k in
          topic_under _ _ _ _ _ _ (topic_in u (place s t)) f 1 (flags / 2) (joined_in u t)
          (λ e. absurd (omega arith))
          (λ e. absurd (omega arith))
          (λ m. absurd (off (f.inside m).0)))
          new)

      -- a retained id resumes its record
      connect_retained :
          (s : ℕ) → find_retained u id ≡ Some s → Router (connect_at u time id groups flags version s).state
      connect_retained s e =
          let q = retained_at u id s e in
          connect_at_lem s q.0 (λ z. omega arith) (λ k l n i. sym q.2 ∙ ids_of time u g s k q.0 l n (i ∙ sym q.2))

      -- an empty record's id is 0
      empty_id : (k : ℕ) → k < slot_count → (peer_in u k).status ≡ 0 → (peer_in u k).id ≡ 0
      empty_id k l e =
          ap (λ (p : Peer). p.id) (zero_is (peer_in u k) ((peer_of time u g k l).empty e) e (g.size.ends k))

      -- an id that no record holds
      connect_new :
          (s : ℕ) →
          lowest_empty u ≡ Some s →
          find_retained u id ≡ None →
          ((k : ℕ) → k < slot_count → (peer_in u k).status ≡ 1 → (peer_in u k).id ≡ id → ⊥) →
          Router (connect_at u time id groups flags version s).state
      connect_new s e n c =
          let q = empty_at u s e in
          connect_at_lem s q.0 (λ z. omega arith) (λ k l m i. absurd (held k l i))
        where
          held : (k : ℕ) → k < slot_count → (peer_in u k).id ≡ id → ⊥
          held k l i =
              let none : (peer_in u k).status ≡ 0 → ⊥ = λ z. omega (arith, empty_id k l z) in
              let on : (peer_in u k).status ≡ 1 → ⊥ = λ z. c k l z i in
              let kept : (peer_in u k).status ≡ 2 → ⊥ = λ z. none_retained u id n k l z i in
              omega (arith, (peer_of time u g k l).status, none, on, kept)

    module _ (st : State) (router : Router st) (g : RouterAt time st) (none : find_connected st id ≡ None) where
      -- reclaiming connects nobody
      still_none :
          (k : ℕ) → k < slot_count → (peer_in (reclaimed st time) k).status ≡ 1 → (peer_in (reclaimed st time) k).id ≡ id → ⊥
      still_none k l e i =
          let q = reclaimed_peer st time g.size k l in
          by_test ⊥ (reclaimable (peer_in st k) time)
          (λ r.
          let z : peer_in (reclaimed st time) k ≡ no_peer = q ∙ rw r in
          let y : 1 ≡ 0 = sym e ∙ ap (λ (p : Peer). p.status) z in
          omega arith)
          (λ r.
          let z : peer_in (reclaimed st time) k ≡ peer_in st k = q ∙ rw r in
          none_connected st id none k l
          (sym (ap (λ (p : Peer). p.status) z) ∙ e)
          (sym (ap (λ (p : Peer). p.id) z) ∙ i))

pub keeps_connect :
    (time : ℕ) (st : State) →
    Router st →
    RouterAt time st →
    (id : ℕ) (groups : Groups) (flags : ℕ) (name : List ℕ) →
    1 ≤ id →
    id ≤ max_id →
    rising_ok groups ≡ true →
    1 ≤ groups.first →
    flags ≤ 3 →
    Router (connect_reply st time id groups flags name).state
keeps_connect time st router g id groups flags name least most rising one few =
    let u = router_reclaimed time st g in
    by_connect (λ (r : Reply). Router r.state) st time id groups flags name
    (λ n. router)
    (λ v s n c. router)
    (λ v s n c r. connect_retained time id groups flags v least most rising one few (version_small name v n) (reclaimed st time) u s r)
    (λ v s n c r e.
    let known = version_small name v n in
    connect_new time id groups flags v least most rising one few known (reclaimed st time) u s e r
    (still_none time id groups flags v least most rising one few known st router g c))
    (λ v n c r e. router)
