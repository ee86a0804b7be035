-- "Each call keeps this so": join, leave, subscribe, unsubscribe, GRAFT, PRUNE.
-- Assumes nothing.
use Prim.Native.Nat.{ℕ, ◌<◌, ◌≤◌, min}
use native.Mathlib.Omega.{arith}
use mathlib.Core.Path.{◌≡◌, refl, sym, ◌∙◌}
use mathlib.Core.Logic.{◌≢◌}
use mathlib.Core.Bool.{true, false}
use mathlib.Core.List.{[]}
use lib.Dec.{eqb}
use borrow.Author.Tests.{eqb-true, eqb-false}
use Rattle.index.specs.Index.{iter}
use Rattle.index.proofs.Index.{iter_keeps}
use Rattle.index.proofs.Flags.{by_test, cond_case}
use Rattle.records.specs.declared.Peer.{Peer}
use Rattle.records.specs.Records.{State, place, joined_in, peer_in, topic_in, set_joined, slot_count}
use Rattle.validity.specs.Valid.{max_end}
use Rattle.score.specs.Counters.{count_most, raised_of, grown_of}
use Rattle.score.specs.Score.{topic_params_in}
use Rattle.effects.specs.Effects.{with_end, with_p7, into_mesh, on_topic, is_joined, is_member, pruned, end_after, prune_backoff}
use Rattle.effects.specs.Effects.{unsubscribe_backoff}
use Rattle.effects.proofs.Walks.{iter_before, iter_once}
use Rattle.effects.proofs.EffectLaws.{ends_with, place_slot, pruned_apart, pruned_member, pruned_reads}
use Rattle.rules.specs.Reply.{Reply, ignored, done}
use Rattle.rules.proofs.GraftLaws.{Entering, by_graft}
use Rattle.rules.specs.Step.{is_negative, is_graylisted, is_heard, join_reply, punished, leave_slot, leave_reply, subscribe_reply}
use Rattle.rules.specs.Step.{unsubscribe_reply, seen_in, graft_refused, raised_p7, is_crowded, graft_reply, seconds_of, prune_reply}
use Rattle.rules.proofs.PunishedLaws.{punished_apart}
use Rattle.rules.proofs.KeepsRecord.{peer_end, peer_p7, topic_left, topic_subscribed, topic_in_lem, topic_counted}
use Rattle.rules.proofs.KeepsState.{Router, RouterAt, Fits, router_end, latest, peer_of, topic_of, end_most, prune_most, leave_most}
use Rattle.rules.proofs.KeepsState.{router_topic, router_joined, router_backoff, router_numbers, router_pruned, Walked, walk_none}
use Rattle.rules.proofs.KeepsState.{walk_topic, either}

module _ (time : ℕ) (st : State) (g : RouterAt time st) (t : ℕ) (k : t < 8) where
  pub keeps_join : Router (join_reply st time t).state
  unfolding join_reply
  keeps_join =
      either (is_joined st t) (ignored st time) _
      (λ e. router_end time st g)
      (λ e. router_end time (set_joined st t 1) (router_joined time st g t 1 (omega arith) (λ s h m. refl)))

  module _ (s : ℕ) (h : s < slot_count) (on : (peer_in st s).status ≡ 1) where
    fits : Fits time st s t (topic_in st (place s t))
    fits = topic_of time st g s t h k

    pub keeps_subscribe : Router (subscribe_reply st time t s).state
    unfolding subscribe_reply
    keeps_subscribe =
        either (is_graylisted st s) (ignored st time) _
        (λ e. router_end time st g)
        (λ e. router_end time _ (router_topic time st g s t _ k (topic_subscribed _ _ _ _ _ _ (topic_in st (place s t)) fits on)))

    pub keeps_unsubscribe : Router (unsubscribe_reply st time t s).state
    unfolding unsubscribe_reply
    keeps_unsubscribe =
        either (is_graylisted st s) (ignored st time) _
        (λ e. router_end time st g)
        (λ e. router_end time _ (router_topic time st g s t _ k (topic_left _ _ _ _ _ _ (topic_in st (place s t)) fits)))

    seconds_most : (seconds : ℕ) → seconds_of st seconds ≤ 3600
    unfolding seconds_of
    seconds_most seconds =
        cond_case (λ (n : ℕ). n ≤ 3600) (eqb seconds 0) (prune_backoff st) (min seconds 3600)
        (λ e. prune_most time st g)
        (λ e. omega arith)

    pub keeps_prune : (seconds : ℕ) → Router (prune_reply st time t seconds s).state
    unfolding prune_reply
    keeps_prune seconds =
        either (is_heard st t s) _ (ignored st time)
        (λ e.
        router_end time _
        (router_pruned time st g s t (end_after time (seconds_of st seconds)) h k on
        (end_most time st g (seconds_of st seconds) (seconds_most seconds))))
        (λ e. router_end time st g)

    -- ---- GRAFT
    keeps_refused : Router (graft_refused st time t s (peer_in st s)).state
    unfolding graft_refused
    keeps_refused =
        router_end time _
        (router_backoff time st g s h on t (end_after time (prune_backoff st)) k
        (end_most time st g (prune_backoff st) (prune_most time st g)))

    -- a member that entered is subscribed, not explicit, and in a joined topic
    keeps_entered : Entering (seen_in st t s) (is_crowded st t) time t → Router (done (on_topic st s t (λ r. into_mesh r time)) time []).state
    keeps_entered e =
        router_end time _
        (router_topic time st g s t _ k
        (topic_in_lem _ _ _ _ _ _ (topic_in st (place s t)) fits on (latest time st g)
        (eqb-true (topic_in st (place s t)).subscribed 1 e.subscribed)
        (not_explicit (peer_in st s).explicit (peer_of time st g s h).explicit (eqb-false _ _ e.plain))
        (eqb-true (joined_in st t) 1 e.outside.joined)))
      where
        not_explicit : (n : ℕ) → n ≤ 1 → (n ≡ 1 → ⊥) → n ≡ 0
        not_explicit n b z = omega (arith, z)

    -- P7 and the end of the backoff grow in one record
    keeps_raised : Router (graft_refused st time t s (raised_p7 (peer_in st s))).state
    unfolding graft_refused raised_p7 with_p7 with_end
    keeps_raised =
        let p = peer_in st s in
        let n = raised_of p.p7 count_most in
        let end = end_after time (prune_backoff st) in
        let b = end_most time st g (prune_backoff st) (prune_most time st g) in
        router_end time _
        (router_numbers time st g s (with_end (with_p7 p n) t end)
        (ends_with (with_p7 p n) t end ∙ g.size.ends s)
        (peer_end time (with_p7 p n) (peer_p7 time p (peer_of time st g s h) on n (omega arith)) on t end k b)
        h
        refl
        refl
        refl)

    pub keeps_graft : Router (graft_reply st time t s).state
    keeps_graft =
        by_graft (λ (r : Reply). Router r.state) st time t s
        (λ e. router_end time st g)
        (λ e m. router_end time st g)
        (λ e. keeps_refused)
        (λ e. keeps_raised)
        keeps_entered

-- ---- leave: every member by slot
module _ (time : ℕ) (st : State) (g : RouterAt time st) (t : ℕ) (k : t < 8) (end : ℕ) (b : end ≤ max_end time) where
  pub member_on : (s : ℕ) → s < slot_count → is_member st t s ≡ true → (peer_in st s).status ≡ 1
  unfolding is_member
  member_on s h m = ((topic_of time st g s t h k).inside (eqb-true (topic_in st (place s t)).member 1 m)).0

  pub walk_punished :
      (s : ℕ) (u : State) → s < slot_count → (peer_in st s).status ≡ 1 → Walked time st u → Walked time st (punished st t s u)
  unfolding punished grown_of
  walk_punished s u h on w =
      cond_case (λ (v : State). Walked time st v) (is_negative st s) (on_topic u s t (grown_of (topic_params_in st t))) u
      (λ e.
      let r = topic_in u (place s t) in
      let f : Fits time u s t r = topic_of time u w.at s t h k in
      walk_topic time st u w s t _ k
      (topic_counted _ _ _ _ _ _ r f (w.status s ∙ on) r.p2 r.p3 r.p4 _ f.p2 f.p3 f.p4 (omega arith)
      (latest time u w.at)))
      (λ e. w)

  pub walk_pruned :
      (s : ℕ) (u : State) → s < slot_count → (peer_in st s).status ≡ 1 → Walked time st u → Walked time st (pruned u s t end)
  unfolding with_end
  walk_pruned s u h on w =
      record {
        at = router_pruned time u w.at s t end h k (w.status s ∙ on) b;
        status = λ i. pruned_reads u s t end (λ (p : Peer). p.status) i (λ p. refl) ∙ w.status i;
      }

  walk_slot : (s : ℕ) (u : State) → s < slot_count → Walked time st u → Walked time st (leave_slot st t end s u)
  unfolding leave_slot
  walk_slot s u h w =
      cond_case (λ (v : State). Walked time st v) (is_member st t s) (pruned (punished st t s u) s t end) u
      (λ m. let on = member_on s h m in walk_pruned s (punished st t s u) h on (walk_punished s u h on w))
      (λ m. w)

  walked : (n : ℕ) → n ≤ slot_count → Walked time st (iter n (leave_slot st t end) st)
  walked n l =
      iter_keeps (λ (v : State). Walked time st v) (leave_slot st t end) n st (walk_none time st g)
      (λ s u h. walk_slot s u (omega arith))

  -- no member is left
  leave_other : (s i : ℕ) (u : State) → i ≢ s → is_member (leave_slot st t end i u) t s ≡ is_member u t s
  unfolding leave_slot punished
  leave_other s i u n =
      let apart = place_slot i t s t k k (λ e. n (sym e)) in
      cond_case (λ (v : State). is_member v t s ≡ is_member u t s) (is_member st t i) (pruned (punished st t i u) i t end) u
      (λ m.
      pruned_apart (punished st t i u) i t end s t apart
      ∙ punished_apart st t i u s t apart)
      (λ m. refl)

  none_left : (s : ℕ) → s < slot_count → is_member (iter slot_count (leave_slot st t end) st) t s ≡ false
  unfolding leave_slot
  none_left s h =
      let w = iter s (leave_slot st t end) st in
      iter_once (λ (v : State). is_member v t s) (leave_slot st t end) s (leave_other s) slot_count st h
      ∙ by_test (is_member (leave_slot st t end s w) t s ≡ false) (is_member st t s)
      (λ m.
      rw m
      (pruned_member (punished st t s w) s t end (walk_punished s w h (member_on s h m) (walked s (omega arith))).at.size h k))
      (λ m. rw m (iter_before (λ (v : State). is_member v t s) (leave_slot st t end) s (leave_other s) s st (omega arith) ∙ m))

pub keeps_leave : (time : ℕ) (st : State) → RouterAt time st → (t : ℕ) → t < 8 → Router (leave_reply st time t).state
unfolding leave_reply is_member
keeps_leave time st g t k =
    let end = end_after time (unsubscribe_backoff st) in
    let b : end ≤ max_end time = end_most time st g (unsubscribe_backoff st) (leave_most time st g) in
    let w = iter slot_count (leave_slot st t end) st in
    either (is_joined st t) _ (ignored st time)
    (λ e.
    router_end time (set_joined w t 0)
    (router_joined time w (walked time st g t k end b slot_count (omega arith)).at t 0 (omega arith) (λ s h m.
    absurd (eqb-false (topic_in w (place s t)).member 1 (none_left time st g t k end b s h) m))))
    (λ e. router_end time st g)
