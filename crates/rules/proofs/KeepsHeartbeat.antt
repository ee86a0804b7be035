-- "Each call keeps this so": the heartbeat. A slot that comes in was a candidate, so it is connected, subscribed and not explicit.
-- Assumes nothing.
use Prim.Native.Nat.{ℕ, ◌<◌, ◌≤◌}
use mathlib.Core.Path.{◌≡◌, refl, sym, ap, ◌∙◌}
use mathlib.Core.Logic.{⊎_elim}
use mathlib.Core.Bool.{Bool, true, false, false≢true}
use mathlib.Core.List.{List}
use borrow.Author.Tests.{eqb-true}
use Rattle.index.specs.Index.{iter}
use Rattle.index.proofs.Index.{iter_keeps}
use Rattle.index.proofs.Flags.{cond_case}
use Rattle.records.specs.declared.Peer.{Peer}
use Rattle.records.specs.declared.TopicRecord.{TopicRecord}
use Rattle.records.specs.Records.{State, slot_count, place, joined_in, peer_in, topic_in}
use Rattle.layout.proofs.StateLaws.{peer_after_topic, topic_after_peer}
use Rattle.validity.specs.Valid.{max_end, valid}
use Rattle.score.specs.Score.{topic_params_in}
use Rattle.score.specs.Counters.{grown_of}
use Rattle.effects.specs.Effects.{with_end, out_of_mesh, into_mesh, on_topic, is_joined, is_member, pruned, end_after, prune_backoff}
use Rattle.effects.proofs.EffectLaws.{Kept, kept_self, kept_then, kept_joined, kept_topic, kept_pruned, on_topic_lem, pruned_reads}
use Rattle.sets.specs.Sets.{by_slot, at, is_permutation}
use Rattle.sets.proofs.SlotLaws.{slots_in}
use Rattle.sets.proofs.SetLaws.{both_left}
use Rattle.mesh.specs.Maintenance.{goods}
use Rattle.rules.specs.Reply.{ignored, refused}
use Rattle.rules.specs.declared.Answer.TheVariants.{NotPermutation}
use Rattle.rules.specs.Step.{is_negative, is_candidate, view_in, meshes_in, punished, settle_slot, maintained_reply, heartbeat_reply}
use Rattle.rules.proofs.PunishedLaws.{punished_peer, punished_kept}
use Rattle.rules.proofs.HeartbeatLaws.{candidate_connected, candidate_subscribed, candidate_plain, view_kept}
use Rattle.rules.proofs.KeepsRecord.{topic_in_lem}
use Rattle.rules.proofs.KeepsState.{Router, RouterAt, router_end, latest, topic_of, end_most, prune_most, Walked, walk_none}
use Rattle.rules.proofs.KeepsState.{walk_topic, either}
use Rattle.rules.proofs.KeepsTopic.{member_on, walk_punished, walk_pruned}

-- the state u, on the way of the walk from st: still a router's, with the statuses, the explicit flags and the topic's subscriptions of st
record Settling (time : ℕ) (st : State) (t : ℕ) (u : State) : Type 0 where
  walk : Walked time st u
  kept : Kept st u
  subscribed : (j : ℕ) → (topic_in u (place j t)).subscribed ≡ (topic_in st (place j t)).subscribed
  explicit : (j : ℕ) → (peer_in u j).explicit ≡ (peer_in st j).explicit

-- a slot that was no member and is in the mesh that is left was a candidate
pub comes_in :
    (st : State) (time t ask : ℕ) (order : List ℕ) →
    valid st ≡ true →
    is_permutation slot_count order ≡ true →
    (s : ℕ) →
    is_member st t s ≡ false →
    at (meshes_in st time t ask order).fifth s ≡ true →
    is_candidate st time t s ≡ true
unfolding view_in
comes_in st time t ask order ok right s m a =
    ⊎_elim
    (λ b.
    let q = slots_in (is_member st t) slot_count s (both_left (by_slot slot_count (is_member st t)) (goods (view_in st time t ask order)) s b) in
    absurd (false≢true (sym m ∙ q.1)))
    (λ c. (slots_in (is_candidate st time t) slot_count s c).1)
    ((view_kept st time t ask order ok right).pool s a)

module _ (time : ℕ) (st : State) (g : RouterAt time st) (t : ℕ) (k : t < 8) (j : joined_in st t ≡ 1) (mesh : List Bool)
    (new : (s : ℕ) → is_member st t s ≡ false → at mesh s ≡ true → is_candidate st time t s ≡ true) where
  abbrev end : ℕ
  end = end_after time (prune_backoff st)

  bound : end ≤ max_end time
  bound = end_most time st g (prune_backoff st) (prune_most time st g)

  -- out of the mesh, with a backoff
  out_subscribed :
      (s : ℕ) (u : State) (i : ℕ) →
      (topic_in (pruned (punished st t s u) s t end) (place i t)).subscribed ≡ (topic_in u (place i t)).subscribed
  unfolding pruned punished out_of_mesh grown_of
  out_subscribed s u i =
      ap (λ (r : TopicRecord). r.subscribed) (topic_after_peer (on_topic (punished st t s u) s t out_of_mesh) s _ (place i t))
      ∙ on_topic_lem (λ (r : TopicRecord). r.subscribed) (punished st t s u) s t out_of_mesh (place i t) refl
      ∙ cond_case (λ (v : State). (topic_in v (place i t)).subscribed ≡ (topic_in u (place i t)).subscribed) (is_negative st s)
      (on_topic u s t (grown_of (topic_params_in st t))) u
      (λ n. on_topic_lem (λ (r : TopicRecord). r.subscribed) u s t (grown_of (topic_params_in st t)) (place i t) refl)
      (λ n. refl)

  out : (s : ℕ) (u : State) → s < slot_count → is_member st t s ≡ true → Settling time st t u →
      Settling time st t (pruned (punished st t s u) s t end)
  unfolding with_end
  out s u h m w =
      let on = member_on time st g t k end bound s h m in
      let v = punished st t s u in
      record {
        walk = walk_pruned time st g t k end bound s v h on (walk_punished time st g t k end bound s u h on w.walk);
        kept = kept_then w.kept (kept_then (punished_kept st t s u) (kept_pruned v s t end));
        subscribed = λ i. out_subscribed s u i ∙ w.subscribed i;
        explicit =
            λ i.
            pruned_reads v s t end (λ (p : Peer). p.explicit) i (λ p. refl)
            ∙ ap (λ (p : Peer). p.explicit) (punished_peer st t s u i)
            ∙ w.explicit i;
      }

  -- into it
  into :
      (s : ℕ) (u : State) → s < slot_count → is_candidate st time t s ≡ true → Settling time st t u →
      Settling time st t (on_topic u s t (λ r. into_mesh r time))
  unfolding into_mesh
  into s u h c w =
      let on = eqb-true (peer_in st s).status 1 (candidate_connected st time t s c) in
      let sub = eqb-true (topic_in st (place s t)).subscribed 1 (candidate_subscribed st time t s c) in
      let plain = eqb-true (peer_in st s).explicit 0 (candidate_plain st time t s c) in
      let r = topic_in u (place s t) in
      record {
        walk =
            walk_topic time st u w.walk s t _ k
            (topic_in_lem _ _ _ _ _ _ r (topic_of time u w.walk.at s t h k) (w.walk.status s ∙ on) (latest time st g)
            (w.subscribed s ∙ sub) (w.explicit s ∙ plain) (kept_joined w.kept t ∙ j));
        kept = kept_then w.kept (kept_topic u (place s t) _);
        subscribed = λ i. on_topic_lem (λ (q : TopicRecord). q.subscribed) u s t (λ q. into_mesh q time) (place i t) refl ∙ w.subscribed i;
        explicit = λ i. ap (λ (p : Peer). p.explicit) (peer_after_topic u (place s t) _ i) ∙ w.explicit i;
      }

  turn : (s : ℕ) (u : State) → s < slot_count → Settling time st t u → Settling time st t (settle_slot st time t mesh s u)
  unfolding settle_slot
  turn s u h w =
      cond_case (Settling time st t) (is_member st t s) _ _
      (λ m. cond_case (Settling time st t) (at mesh s) _ _ (λ a. w) (λ a. out s u h m w))
      (λ m. cond_case (Settling time st t) (at mesh s) _ _ (λ a. into s u h (new s m a) w) (λ a. w))

  settling : Settling time st t (iter slot_count (settle_slot st time t mesh) st)
  settling =
      iter_keeps (Settling time st t) (settle_slot st time t mesh) slot_count st
      (record { walk = walk_none time st g; kept = kept_self st; subscribed = λ i. refl; explicit = λ i. refl })
      (λ s u h. turn s u h)

pub keeps_heartbeat :
    (time : ℕ) (st : State) →
    valid st ≡ true →
    RouterAt time st →
    (t ask : ℕ) (order : List ℕ) →
    t < 8 →
    Router (heartbeat_reply st time t ask order).state
unfolding heartbeat_reply maintained_reply
keeps_heartbeat time st ok g t ask order k =
    either (is_permutation slot_count order) _ (refused NotPermutation st)
    (λ right.
    either (is_joined st t) _ (ignored st time)
    (λ j.
    let mesh = (meshes_in st time t ask order).fifth in
    let w = settling time st g t k (eqb-true (joined_in st t) 1 j) mesh (comes_in st time t ask order ok right) in
    router_end time (iter slot_count (settle_slot st time t mesh) st) w.walk.at)
    (λ j. router_end time st g))
    (λ wrong. record { size = g.size; router = ok })
