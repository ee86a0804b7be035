-- Of 01's calls other than connect and disconnect: whose record is empty, connected or retained, and under which id, is as before; and
-- which topics are joined, but for join and leave. Of all but connect: who is connected was so.
-- Assumes nothing.
use Prim.Native.Nat.{ℕ, ◌<◌}
use native.Mathlib.Omega.{arith}
use mathlib.Core.Path.{◌≡◌, refl, sym, ap, ◌∙◌}
use mathlib.Core.Bool.{Bool, cond}
use mathlib.Core.List.{List, []}
use lib.IntN.{ℤ}
use lib.ListN.{set}
use Rattle.index.specs.Index.{iter}
use Rattle.index.proofs.Index.{iter_keeps}
use Rattle.index.proofs.Flags.{cond_case}
use Rattle.varint.specs.Codes.{code_of}
use Rattle.records.specs.declared.Peer.{Peer}
use Rattle.records.specs.declared.TopicRecord.{TopicRecord}
use Rattle.records.specs.Records.{State, slot_count, topic_count, no_peer, no_topic, place, peer_in, set_clock, set_joined, set_peer, set_topic}
use Rattle.records.specs.Records.{is_connected}
use Rattle.layout.proofs.StateLaws.{peer_same, peer_other, peer_case}
use Rattle.score.specs.Counters.{grown_of}
use Rattle.score.specs.Score.{topic_params_in}
use Rattle.sets.specs.Sets.{at, is_permutation}
use Rattle.effects.specs.Effects.{prune_backoff, unsubscribe_backoff, with_end, with_p5, with_p7, out_of_mesh, into_mesh, with_subscribed, on_peer}
use Rattle.effects.specs.Effects.{on_topic, is_joined, is_member, pruned, end_after, retained_to, left_topic, departed, reclaimable, emptied}
use Rattle.effects.specs.Effects.{reclaim_slot, reclaimed}
use Rattle.rules.specs.declared.Answer.TheVariants.{NotPermutation}
use Rattle.rules.specs.Reply.{Reply, refused, ignored, done}
use Rattle.rules.specs.Step.{is_negative, is_graylisted, is_heard, leave_slot, subscribe_reply, unsubscribe_reply, graft_refused, raised_p7}
use Rattle.rules.specs.Step.{graft_reply, seconds_of, prune_reply, delivered_of, deliver_reply, punished, settle_slot, meshes_in, maintained_reply}
use Rattle.rules.specs.Step.{heartbeat_reply, decay_topic, decay_p7, decay_slot, decay_reply}
use Rattle.layout.specs.View.{Sized}
use Rattle.effects.proofs.EffectLaws.{Kept, kept_self, kept_then, kept_peer, kept_topic, kept_iter, walk, walk_sized, walk_peer}
use Rattle.rules.proofs.GraftLaws.{by_graft}
use Rattle.call_lists.proofs.Fewer.{Fewer}

abbrev pub Stay : State → State → Type 0
Stay st u =
    (s : ℕ) → (peer_in u s).status ≡ 1 → ((peer_in st s).status ≡ 1) × ((peer_in u s).id ≡ (peer_in st s).id)

pub stay_fewer : (st u : State) → Fewer st u → Stay st u
stay_fewer st u f s on = let w = f.peer s on in (w.status, w.id)

-- ---- the records of the peers stand in what is asked here
pub record Same (st u : State) : Type 0 where
  pub status : (i : ℕ) → (peer_in u i).status ≡ (peer_in st i).status
  pub id : (i : ℕ) → (peer_in u i).id ≡ (peer_in st i).id

-- and the joined topics
pub record Calm (st u : State) : Type 0 where
  pub same : Same st u
  pub joined : u.joined ≡ st.joined

pub stay_same : (st u : State) → Same st u → Stay st u
stay_same st u f s on = (sym (f.status s) ∙ on, f.id s)

same_then : (a b c : State) → Same a b → Same b c → Same a c
same_then a b c f g = record { status = λ i. g.status i ∙ f.status i; id = λ i. g.id i ∙ f.id i }

pub calm_self : (st : State) → Calm st st
calm_self st = record { same = record { status = λ i. refl; id = λ i. refl }; joined = refl }

calm_then : (a b c : State) → Calm a b → Calm b c → Calm a c
calm_then a b c f g = record { same = same_then a b c f.same g.same; joined = g.joined ∙ f.joined }

pub calm_clock : (st : State) (n : ℕ) → Calm st (set_clock st n)
unfolding set_clock peer_in
calm_clock st n = record { same = record { status = λ i. refl; id = λ i. refl }; joined = refl }

calm_topic : (st : State) (k : ℕ) (r : TopicRecord) → Calm st (set_topic st k r)
unfolding set_topic peer_in
calm_topic st k r = record { same = record { status = λ i. refl; id = λ i. refl }; joined = refl }

calm_peer :
    (st : State) (s : ℕ) (p : Peer) → p.status ≡ (peer_in st s).status → p.id ≡ (peer_in st s).id → Calm st (set_peer st s p)
unfolding set_peer
calm_peer st s p a b =
    record {
      same = record {
        status = λ i. peer_case st (λ (q : Peer). q.status ≡ (peer_in st i).status) s p i (λ (e : i ≡ s). rw e a) refl;
        id = λ i. peer_case st (λ (q : Peer). q.id ≡ (peer_in st i).id) s p i (λ (e : i ≡ s). rw e b) refl;
      };
      joined = refl;
    }

calm_iter :
    (f : ℕ → State → State) (n : ℕ) (st : State) → ((i : ℕ) (u : State) → Calm u (f i u)) → Calm st (iter n f st)
calm_iter f n st h =
    iter_keeps (λ (u : State). Calm st u) f n st (calm_self st) (λ i u l w. calm_then st u (f i u) w (h i u))

calm_either : (st : State) (b : Bool) (u v : State) → Calm st u → Calm st v → Calm st (cond b u v)
calm_either st b u v f g = cond_case (λ (w : State). Calm st w) b u v (λ e. f) (λ e. g)

module _ (st : State) (s : ℕ) where
  calm_end : (t end : ℕ) → Calm st (on_peer st s (λ p. with_end p t end))
  unfolding with_end
  calm_end t end = calm_peer st s _ refl refl

  calm_p5 : (code : ℕ) → Calm st (on_peer st s (λ p. with_p5 p code))
  unfolding with_p5
  calm_p5 code = calm_peer st s _ refl refl

  calm_p7 : (n : ℕ) → Calm st (on_peer st s (λ p. with_p7 p n))
  unfolding with_p7
  calm_p7 n = calm_peer st s _ refl refl

calm_pruned : (st : State) (s t end : ℕ) → Calm st (pruned st s t end)
unfolding pruned
calm_pruned st s t end =
    calm_then st (on_topic st s t out_of_mesh) _ (calm_topic st (place s t) _) (calm_end (on_topic st s t out_of_mesh) s t end)

calm_punished : (st : State) (t s : ℕ) (u : State) → Calm u (punished st t s u)
unfolding punished
calm_punished st t s u =
    calm_either u (is_negative st s) (on_topic u s t (grown_of (topic_params_in st t))) u (calm_topic u (place s t) _) (calm_self u)

-- ---- the calls
module _ (st : State) (time : ℕ) where
  abbrev Here : Reply → Type 0
  Here r = Calm st r.state

  moved : (u : State) → Calm st u → Calm st (set_clock u time)
  moved u f = calm_then st u (set_clock u time) f (calm_clock u time)

  pub calm_ignored : Here (ignored st time)
  calm_ignored = calm_clock st time

  on_topic_lem : (s t : ℕ) (g : TopicRecord → TopicRecord) → Calm st (set_clock (on_topic st s t g) time)
  on_topic_lem s t g = moved (on_topic st s t g) (calm_topic st (place s t) _)

  pub calm_rate : (p5 : ℤ) (s : ℕ) → Here (done (on_peer st s (λ p. with_p5 p (code_of p5))) time [])
  calm_rate p5 s = moved _ (calm_p5 st s (code_of p5))

  pub calm_decay : Here (decay_reply st time)
  unfolding decay_reply decay_slot decay_topic decay_p7
  calm_decay =
      moved _ (calm_iter (decay_slot time) slot_count st (λ s u.
      let w = iter 8 (decay_topic time s) u in
      calm_either u (is_connected (peer_in u s)) (decay_p7 s w) u
      (calm_then u w (decay_p7 s w)
      (calm_iter (decay_topic time s) 8 u (λ t v. calm_topic v (place s t) _))
      (calm_p7 w s _))
      (calm_self u)))

  module _ (t s : ℕ) where
    pub calm_subscribe : Here (subscribe_reply st time t s)
    unfolding subscribe_reply
    calm_subscribe =
        cond_case Here (is_graylisted st s) (ignored st time) _ (λ e. calm_ignored) (λ e. on_topic_lem s t (λ r. with_subscribed r 1))

    pub calm_unsubscribe : Here (unsubscribe_reply st time t s)
    unfolding unsubscribe_reply
    calm_unsubscribe =
        cond_case Here (is_graylisted st s) (ignored st time) _ (λ e. calm_ignored) (λ e. on_topic_lem s t (λ r. with_subscribed (out_of_mesh r) 0))

    pub calm_prune : (seconds : ℕ) → Here (prune_reply st time t seconds s)
    unfolding prune_reply
    calm_prune seconds =
        cond_case Here (is_heard st t s) _ (ignored st time)
        (λ e. moved _ (calm_pruned st s t (end_after time (seconds_of st seconds))))
        (λ e. calm_ignored)

    pub calm_deliver : (kind : ℕ) → Here (deliver_reply st time t kind s)
    unfolding deliver_reply
    calm_deliver kind =
        cond_case Here (is_heard st t s) _ (ignored st time) (λ e. on_topic_lem s t (delivered_of kind (topic_params_in st t))) (λ e. calm_ignored)

    -- "PRUNE": a peer's record with the status and id that it had
    calm_back : (p : Peer) → p.status ≡ (peer_in st s).status → p.id ≡ (peer_in st s).id → Here (graft_refused st time t s p)
    unfolding graft_refused with_end
    calm_back p a b = moved _ (calm_peer st s (with_end p t (end_after time (prune_backoff st))) a b)

    calm_raised : Here (graft_refused st time t s (raised_p7 (peer_in st s)))
    unfolding raised_p7 with_p7
    calm_raised = calm_back _ refl refl

    pub calm_graft : Here (graft_reply st time t s)
    calm_graft =
        by_graft Here st time t s
        (λ e. calm_ignored)
        (λ e m. calm_ignored)
        (λ e. calm_back (peer_in st s) refl refl)
        (λ e. calm_raised)
        (λ e. on_topic_lem s t (λ r. into_mesh r time))

  -- the heartbeat of a topic
  calm_settled : (t : ℕ) (mesh : List Bool) (s : ℕ) (u : State) → Calm u (settle_slot st time t mesh s u)
  unfolding settle_slot
  calm_settled t mesh s u =
      let end = end_after time (prune_backoff st) in
      calm_either u (is_member st t s) _ _
      (calm_either u (at mesh s) u (pruned (punished st t s u) s t end)
      (calm_self u)
      (calm_then u (punished st t s u) _ (calm_punished st t s u) (calm_pruned (punished st t s u) s t end)))
      (calm_either u (at mesh s) (on_topic u s t (λ r. into_mesh r time)) u (calm_topic u (place s t) _) (calm_self u))

  pub calm_heartbeat : (t ask : ℕ) (order : List ℕ) → Here (heartbeat_reply st time t ask order)
  unfolding heartbeat_reply maintained_reply
  calm_heartbeat t ask order =
      cond_case Here (is_permutation slot_count order) _ (refused NotPermutation st)
      (λ right.
      cond_case Here (is_joined st t) (maintained_reply st time t ask order) (ignored st time)
      (λ j.
      let mesh = (meshes_in st time t ask order).fifth in
      moved _ (calm_iter (settle_slot st time t mesh) slot_count st (calm_settled t mesh)))
      (λ j. calm_ignored))
      (λ wrong. calm_self st)

  -- ---- join and leave, answered 0: one topic's flag
  same_joined : (u : State) (t b : ℕ) → Same u (set_clock (set_joined u t b) time)
  unfolding set_clock set_joined peer_in
  same_joined u t b = record { status = λ i. refl; id = λ i. refl }

  joined_set : (u : State) (t b : ℕ) → (set_clock (set_joined u t b) time).joined ≡ set u.joined t b
  unfolding set_clock set_joined
  joined_set u t b = refl

  pub record Turned (t b : ℕ) (u : State) : Type 0 where
    pub same : Same st u
    pub joined : u.joined ≡ set st.joined t b

  pub turned_join : (t : ℕ) → Turned t 1 (set_clock (set_joined st t 1) time)
  turned_join t = record { same = same_joined st t 1; joined = joined_set st t 1 }

  abbrev pub left : ℕ → State
  left t = iter slot_count (leave_slot st t (end_after time (unsubscribe_backoff st))) st

  pub turned_leave : (t : ℕ) → Turned t 0 (set_clock (set_joined (left t) t 0) time)
  unfolding leave_slot
  turned_leave t =
      let end = end_after time (unsubscribe_backoff st) in
      let w : Calm st (left t) =
      calm_iter (leave_slot st t end) slot_count st (λ s u.
      calm_either u (is_member st t s) (pruned (punished st t s u) s t end) u
      (calm_then u (punished st t s u) _ (calm_punished st t s u) (calm_pruned (punished st t s u) s t end))
      (calm_self u)) in
      record {
        same = same_then st (left t) _ w.same (same_joined (left t) t 0);
        joined = joined_set (left t) t 0 ∙ ap (λ (l : List ℕ). set l t 0) w.joined;
      }

-- ---- disconnect and connect: one record's status
module _ (st : State) (s time : ℕ) where
  abbrev gone : TopicRecord → TopicRecord
  gone r = with_subscribed (out_of_mesh r) 0

  abbrev out : State
  out = iter topic_count (walk s gone) st

  pub departed_status : Sized st → s < slot_count → (peer_in (departed st s time) s).status ≡ 2
  unfolding departed left_topic retained_to
  departed_status size h =
      ap (λ (p : Peer). p.status) (peer_same out s _ (let z = (walk_sized s gone st topic_count size).peers in omega arith))

  pub departed_other : (u : ℕ) → (u ≡ s → ⊥) → peer_in (departed st s time) u ≡ peer_in st u
  unfolding departed left_topic
  departed_other u d = peer_other out s _ u d ∙ walk_peer s gone st topic_count u

  pub departed_joined : (departed st s time).joined ≡ st.joined
  unfolding departed left_topic
  departed_joined =
      (kept_then (kept_iter (walk s gone) topic_count st (λ t u. kept_topic u (place s t) _)) (kept_peer out s _)).joined

pub reclaimed_joined : (st : State) (time : ℕ) → (reclaimed st time).joined ≡ st.joined
unfolding reclaimed reclaim_slot emptied
reclaimed_joined st time =
    (kept_iter (reclaim_slot time) slot_count st (λ s u.
    cond_case (λ (w : State). Kept u w) (reclaimable (peer_in u s) time) _ u
    (λ e.
    kept_then
    (kept_iter (λ t v. set_topic v (place s t) no_topic) topic_count u (λ t v. kept_topic v (place s t) no_topic))
    (kept_peer _ s no_peer))
    (λ e. kept_self u))
    ).joined

-- ---- as the reply bound asks it
pub stay_graft : (st : State) (time t s : ℕ) → Stay st (graft_reply st time t s).state
stay_graft st time t s = stay_same st _ (calm_graft st time t s).same

pub stay_heartbeat :
    (st : State) (time t ask : ℕ) (order : List ℕ) → Stay st (heartbeat_reply st time t ask order).state
stay_heartbeat st time t ask order = stay_same st _ (calm_heartbeat st time t ask order).same
