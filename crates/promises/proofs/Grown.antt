-- P3b of one place, through the walk of a leave or a heartbeat: only the turn of its own slot touches it, and that turn sees the record
-- of the start.
-- Assumes nothing.
use Rattle.index.proofs.Kit.{ℕ, ◌+◌, ◌-◌, ◌*◌, ◌<◌, arith, ◌≡◌, refl, sym, ap, ◌∙◌, Bool, true, false, not, iter, by_test}
use Prim.Native.Nat.{min}
use mathlib.Core.Path.{ap₂}
use mathlib.Core.Logic.{◌≢◌}
use mathlib.Core.Bool.{cond, ◌&&◌}
use mathlib.Core.List.{List, map}
use lib.Dec.{eqb, leb, ltb}
use Rattle.index.proofs.Index.{both, iter_keeps}
use Rattle.index.proofs.Flags.{cond_case}
use Rattle.varint.specs.Codes.{code_of}
use Rattle.params.specs.declared.Params.{Params}
use Rattle.records.specs.declared.TopicRecord.{TopicRecord}
use Rattle.records.specs.Records.{State, slot_count, place, topic_in, set_clock, set_joined}
use Rattle.layout.specs.View.{Sized}
use Rattle.layout.proofs.StateLaws.{topic_same, topic_other}
use Rattle.score.specs.Counters.{grown_of}
use Rattle.score.specs.Parts.{part3_of}
use Rattle.score.specs.Score.{topic_params_in}
use Rattle.sets.specs.Sets.{at, is_permutation}
use Rattle.effects.specs.Effects.{unsubscribe_backoff, prune_backoff, out_of_mesh, into_mesh, on_topic, is_joined, is_member, pruned, end_after}
use Rattle.effects.proofs.Walks.{iter_kept, iter_once, iter_before}
use Rattle.effects.proofs.EffectLaws.{place_slot, pruned_topic_other, pruned_topic_same}
use Rattle.rules.specs.declared.Answer.TheVariants.{NotPermutation}
use Rattle.rules.specs.Reply.{Reply, refused, ignored}
use Rattle.rules.specs.Calls.{leave, heartbeat, topic_ok}
use Rattle.rules.specs.Step.{is_negative, punished, leave_slot, leave_reply, meshes_in, settle_slot, maintained_reply, heartbeat_reply, effect}
use Rattle.rules.specs.Step.{step}
use Rattle.rules.proofs.CaseLaws.{topic_in_lem, arguments, by_gate}
use Rattle.rules.proofs.PunishedLaws.{punished_sized}
use Rattle.rules.proofs.HeartbeatLaws.{settled_sized, settled_member}
use Rattle.call_lists.proofs.Standing.{degree_is}
use Rattle.promises.specs.Grown.{p3_of, Grown}
use Rattle.promises.proofs.Told.{leave_sized, leave_out}

module _ (params : Params) (st : State) (codes : st.codes ≡ map code_of params.numbers) (t : ℕ) where
  -- P3 by the sheet's numbers
  p3_is : (r : TopicRecord) → part3_of (topic_params_in st t) r ≡ p3_of params t r
  unfolding part3_of topic_params_in
  p3_is r =
      ap₂
      (λ (a b : ℕ). cond (eqb r.member 1 && (ltb a r.mesh && ltb r.p3 b)) ((b - r.p3) * (b - r.p3)) 0)
      (degree_is st params codes (19 + 16 * t + 11)) (degree_is st params codes (19 + 16 * t + 10))

  abbrev grown : ℕ → ℕ
  grown s = min ((topic_in st (place s t)).p3b + p3_of params t (topic_in st (place s t))) 1000000000000

  abbrev was : ℕ → ℕ
  was s = (topic_in st (place s t)).p3b

  -- ---- one turn
  module _ (i end : ℕ) (u : State) where
    out_other : (k : ℕ) → k ≢ place i t → topic_in (pruned (punished st t i u) i t end) k ≡ topic_in u k
    unfolding punished
    out_other k n =
        pruned_topic_other (punished st t i u) i t end k n
        ∙ cond_case (λ (w : State). topic_in w k ≡ topic_in u k) (is_negative st i) (on_topic u i t (grown_of (topic_params_in st t))) u
        (λ e. topic_other u (place i t) _ k n)
        (λ e. refl)

    out_same :
        Sized u → i < slot_count → t < 8 → topic_in u (place i t) ≡ topic_in st (place i t) →
        (topic_in (pruned (punished st t i u) i t end) (place i t)).p3b ≡ cond (is_negative st i) (grown i) (was i)
    unfolding punished grown_of out_of_mesh
    out_same size h k e =
        ap (λ (r : TopicRecord). r.p3b)
        (pruned_topic_same (punished st t i u) i t end (punished_sized st t i u size) h k)
        ∙ by_test _ (is_negative st i)
        (λ n.
        rw n
        (ap (λ (r : TopicRecord). r.p3b) (topic_same u (place i t) _ (omega (arith, size.topics, h, k)))
        ∙ ap (λ (r : TopicRecord). min (r.p3b + part3_of (topic_params_in st t) r) 1000000000000) e
        ∙ ap (λ (x : ℕ). min (was i + x) 1000000000000) (p3_is (topic_in st (place i t)))))
        (λ n. rw n (ap (λ (r : TopicRecord). r.p3b) e))

  -- ---- where nobody moved
  same_member : (m n : Bool) (x y : ℕ) → cond (m && (not m && n)) x y ≡ y
  same_member true n x y = refl
  same_member false n x y = refl

  grown_still : (time : ℕ) → Grown params t st (set_clock st time)
  unfolding is_member is_negative set_clock topic_in
  grown_still time = record { grows = λ s h. sym (same_member (is_member st t s) _ _ _); stays = λ s v l n. refl }

  grown_self : Grown params t st st
  unfolding is_negative
  grown_self = record { grows = λ s h. sym (same_member (is_member st t s) _ _ _); stays = λ s v l n. refl }

  -- ---- leave
  module _ (size : Sized st) (k : t < 8) (time : ℕ) where
    abbrev end : ℕ
    end = end_after time (unsubscribe_backoff st)

    leave_other : (i : ℕ) (u : State) (j : ℕ) → j ≢ place i t → topic_in (leave_slot st t end i u) j ≡ topic_in u j
    unfolding leave_slot
    leave_other i u j n =
        cond_case (λ (w : State). topic_in w j ≡ topic_in u j) (is_member st t i) (pruned (punished st t i u) i t end) u
        (λ m. out_other i end u j n)
        (λ m. refl)

    abbrev Left : ℕ → State → Type 0
    Left s w = (topic_in w (place s t)).p3b ≡ cond (is_member st t s && is_negative st s) (grown s) (was s)

    left_p3b : (s : ℕ) → s < slot_count → Left s (iter slot_count (leave_slot st t end) st)
    unfolding leave_slot
    left_p3b s h =
        let w = iter s (leave_slot st t end) st in
        let others : (i : ℕ) (u : State) → i ≢ s → topic_in (leave_slot st t end i u) (place s t) ≡ topic_in u (place s t) =
        λ i u n. leave_other i u (place s t) (place_slot i t s t k k (λ e. n (sym e))) in
        let before : topic_in w (place s t) ≡ topic_in st (place s t) =
        iter_before (λ u. topic_in u (place s t)) (leave_slot st t end) s others s st (omega arith) in
        let zw : Sized w = iter_keeps (λ (u : State). Sized u) (leave_slot st t end) s st size (λ i u l. leave_sized st t end i u) in
        ap (λ (r : TopicRecord). r.p3b) (iter_once (λ u. topic_in u (place s t)) (leave_slot st t end) s others slot_count st h)
        ∙ by_test (Left s (leave_slot st t end s w)) (is_member st t s)
        (λ m. rw m (out_same s end w zw h k before))
        (λ m. rw m (ap (λ (r : TopicRecord). r.p3b) before))

    left_topic_lem : (s v : ℕ) → v < 8 → v ≢ t → topic_in (iter slot_count (leave_slot st t end) st) (place s v) ≡ topic_in st (place s v)
    left_topic_lem s v l n =
        iter_kept (λ u. topic_in u (place s v)) (leave_slot st t end) slot_count st
        (λ i u h. leave_other i u (place s v) (λ e. n (omega (arith, e, l, k))))

    grown_left : Grown params t st (set_clock (set_joined (iter slot_count (leave_slot st t end) st) t 0) time)
    unfolding set_clock set_joined is_member is_negative topic_in
    grown_left =
        record {
          grows = λ s h.
              left_p3b s h
              ∙ ap (λ (b : Bool). cond (is_member st t s && (not b && is_negative st s)) (grown s) (was s))
              (sym (leave_out st t end k size s h));
          stays = λ s v l n. ap (λ (r : TopicRecord). r.p3b) (left_topic_lem s v l n);
        }

    grown_leave : Grown params t st (leave_reply st time t).state
    unfolding leave_reply
    grown_leave =
        cond_case (λ (r : Reply). Grown params t st r.state) (is_joined st t) _ (ignored st time)
        (λ j. grown_left)
        (λ j. grown_still time)

  -- ---- heartbeat
  module _ (size : Sized st) (k : t < 8) (time : ℕ) (mesh : List Bool) where
    abbrev prune : ℕ
    prune = end_after time (prune_backoff st)

    settle_other : (i : ℕ) (u : State) (j : ℕ) → j ≢ place i t → topic_in (settle_slot st time t mesh i u) j ≡ topic_in u j
    unfolding settle_slot
    settle_other i u j n =
        cond_case (λ (w : State). topic_in w j ≡ topic_in u j) (is_member st t i) _ _
        (λ m.
        cond_case (λ (w : State). topic_in w j ≡ topic_in u j) (at mesh i) u (pruned (punished st t i u) i t prune)
        (λ a. refl)
        (λ a. out_other i prune u j n))
        (λ m.
        cond_case (λ (w : State). topic_in w j ≡ topic_in u j) (at mesh i) (on_topic u i t (λ r. into_mesh r time)) u
        (λ a. topic_other u (place i t) _ j n)
        (λ a. refl))

    abbrev Settled : ℕ → State → Type 0
    Settled s w = (topic_in w (place s t)).p3b ≡ cond (is_member st t s && (not (at mesh s) && is_negative st s)) (grown s) (was s)

    settled_p3b : (s : ℕ) → s < slot_count → Settled s (iter slot_count (settle_slot st time t mesh) st)
    unfolding settle_slot into_mesh
    settled_p3b s h =
        let w = iter s (settle_slot st time t mesh) st in
        let others : (i : ℕ) (u : State) → i ≢ s → topic_in (settle_slot st time t mesh i u) (place s t) ≡ topic_in u (place s t) =
        λ i u n. settle_other i u (place s t) (place_slot i t s t k k (λ e. n (sym e))) in
        let before : topic_in w (place s t) ≡ topic_in st (place s t) =
        iter_before (λ u. topic_in u (place s t)) (settle_slot st time t mesh) s others s st (omega arith) in
        let zw : Sized w = settled_sized st time t mesh s size in
        let kept = ap (λ (r : TopicRecord). r.p3b) before in
        ap (λ (r : TopicRecord). r.p3b) (iter_once (λ u. topic_in u (place s t)) (settle_slot st time t mesh) s others slot_count st h)
        ∙ by_test (Settled s (settle_slot st time t mesh s w)) (is_member st t s)
        (λ m. by_test _ (at mesh s) (λ a. rw (m, a) kept) (λ a. rw (m, a) (out_same s prune w zw h k before)))
        (λ m.
        by_test _ (at mesh s)
        (λ a. rw (m, a) (ap (λ (r : TopicRecord). r.p3b) (topic_same w (place s t) _ (omega (arith, zw.topics, h, k))) ∙ kept))
        (λ a. rw (m, a) kept))

    settled_topic : (s v : ℕ) → v < 8 → v ≢ t → topic_in (iter slot_count (settle_slot st time t mesh) st) (place s v) ≡ topic_in st (place s v)
    settled_topic s v l n =
        iter_kept (λ u. topic_in u (place s v)) (settle_slot st time t mesh) slot_count st
        (λ i u h. settle_other i u (place s v) (λ e. n (omega (arith, e, l, k))))

    grown_settled : Grown params t st (set_clock (iter slot_count (settle_slot st time t mesh) st) time)
    unfolding set_clock is_member is_negative topic_in
    grown_settled =
        record {
          grows = λ s h.
              settled_p3b s h
              ∙ ap (λ (b : Bool). cond (is_member st t s && (not b && is_negative st s)) (grown s) (was s))
              (sym (settled_member st time t mesh k size s h));
          stays = λ s v l n. ap (λ (r : TopicRecord). r.p3b) (settled_topic s v l n);
        }

  grown_heartbeat : Sized st → t < 8 → (time ask : ℕ) (order : List ℕ) → Grown params t st (heartbeat_reply st time t ask order).state
  unfolding heartbeat_reply maintained_reply
  grown_heartbeat size k time ask order =
      cond_case (λ (r : Reply). Grown params t st r.state) (is_permutation slot_count order) _ (refused NotPermutation st)
      (λ right.
      cond_case (λ (r : Reply). Grown params t st r.state) (is_joined st t) (maintained_reply st time t ask order) (ignored st time)
      (λ j. grown_settled size k time (meshes_in st time t ask order).fifth)
      (λ j. grown_still time))
      (λ wrong. grown_self)

-- ---- leave and heartbeat, through the gate
module _ (params : Params) (st : State) (codes : st.codes ≡ map code_of params.numbers) (size : Sized st) where
  pub grown_by_leave : (time t room : ℕ) → Grown params t st (step st (leave time t) room).state
  unfolding effect
  grown_by_leave time t room =
      by_gate (λ (r : Reply). Grown params t st r.state) st (leave time t) room
      (λ a e. grown_self params st codes t)
      (λ p. grown_leave params st codes t size (topic_in_lem t (arguments (leave time t) p.ranges)) time)

  pub grown_by_heartbeat : (time t ask room : ℕ) (order : List ℕ) → Grown params t st (step st (heartbeat time t ask order) room).state
  unfolding effect
  grown_by_heartbeat time t ask room order =
      by_gate (λ (r : Reply). Grown params t st r.state) st (heartbeat time t ask order) room
      (λ a e. grown_self params st codes t)
      (λ p.
      grown_heartbeat params st codes t size
      (topic_in_lem t (both (topic_ok t) (leb ask 1) (arguments (heartbeat time t ask order) p.ranges)).0) time ask order)
