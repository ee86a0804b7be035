-- The heartbeat's definitions: what the view holds, what maintenance makes of it, how many actions it has, and what the walk that writes
-- the mesh back leaves of each slot.
-- Assumes nothing.
use Prim.Native.Nat.{ℕ, ◌+◌, ◌-◌, ◌≤◌, ◌<◌}
use native.Mathlib.Omega.{arith}
use mathlib.Core.Path.{◌≡◌, refl, sym, ap, ◌∙◌}
use mathlib.Core.Logic.{◌≢◌}
use mathlib.Core.Bool.{Bool, true, not, false≢true}
use mathlib.Core.List.{List}
use lib.ListN.{get_or, length}
use lib.Dec.{eqb, leb}
use lib.IntN.{ℤ, pos, negsuc, nat_abs, sub_ℕ, ◌+ℤ◌}
use lib.Signed.{le_z, lt_z}
use borrow.Author.Tests.{le-leb, le-ltb}
use Rattle.index.specs.Index.{iter}
use Rattle.index.proofs.Index.{both, iter_keeps}
use Rattle.index.proofs.Flags.{by_test, cond_case}
use Rattle.records.specs.declared.Peer.{Peer}
use Rattle.records.specs.Records.{State, slot_count, place, code_in, peer_in, is_connected}
use Rattle.params.proofs.ParamLaws.{joints}
use Rattle.layout.specs.View.{Sized}
use Rattle.layout.proofs.StateLaws.{peer_after_topic, sized_topic}
use Rattle.validity.specs.Valid.{valid}
use Rattle.validity.proofs.ValidLaws.{valid_facts}
use Rattle.score.specs.declared.Balance.{Balance}
use Rattle.score.specs.Ranges.{score_most}
use Rattle.score.specs.Sums.{worth, offset_of}
use Rattle.score.specs.Score.{score_in, balance_at, Scores}
use Rattle.score.proofs.Differences.{diff_ge, diff_add, diff_pos}
use Rattle.score.proofs.SumLaws.{offset_from}
use Rattle.score.proofs.InputLaws.{slot_in}
use Rattle.score.proofs.ScoreLaws.{balance_in, score_is}
use Rattle.effects.specs.Effects.{with_end, on_topic, is_member, is_subscribed, into_mesh, pruned, end_after, prune_backoff}
use Rattle.effects.proofs.Walks.{iter_kept, iter_before, iter_once}
use Rattle.effects.proofs.EffectLaws.{Kept, kept_self, kept_then, kept_topic, kept_pruned, kept_iter, sized_pruned, place_slot}
use Rattle.effects.proofs.EffectLaws.{pruned_reads, pruned_apart, pruned_member, member_apart, member_in}
use Rattle.sets.specs.Sets.{by_slot, at, Sub, is_permutation}
use Rattle.sets.proofs.SlotLaws.{slots_length, slots_at, slots_in}
use Rattle.sets.proofs.WalkLaws.{from_at}
use Rattle.mesh.specs.Maintenance.{zero_score, goods, changes_of, actions_of, Rules, Whole, Maintained}
use Rattle.mesh.proofs.MaintenanceLaws.{maintained_keeps, maintained_length}
use Rattle.mesh.proofs.Bound.{actions_length}
use Rattle.rules.proofs.PunishedLaws.{punished_peer, punished_apart, punished_kept, punished_sized}
use Rattle.rules.specs.Step.{is_negative, past_slack, is_candidate, height_in, degrees_in, view_in, meshes_in, punished, settle_slot}

-- ---- the scores as maintenance takes them
-- what the code computes
pub height_of : (st : State) (s : ℕ) (b : Balance) → Scores st s b → offset_of b ≡ height_in st s
unfolding height_in
height_of st s b h =
    let r = h.range in
    let e : pos zero_score +ℤ score_in st s ≡ pos (score_most + b.gain - b.loss) =
    ap (λ (z : ℤ). pos zero_score +ℤ z) (sym h.score)
    ∙ ap (λ (z : ℤ). z +ℤ worth b) (diff_pos zero_score)
    ∙ diff_add zero_score 0 b.gain b.loss
    ∙ ap (sub_ℕ (zero_score + b.gain)) (omega arith)
    ∙ diff_ge (zero_score + b.gain) b.loss (omega arith) in
    sym (ap nat_abs e)

-- the order of ℤ at zero
from_zero : (z : ℤ) → le_z (pos 0) z ≡ not (lt_z z (pos 0))
from_zero (pos n) = le-leb 0 n (omega arith) ∙ ap not (sym (le-ltb n 0 (omega arith)))
from_zero (negsuc n) = refl

module _ (st : State) (ok : valid st ≡ true) where
  scored : (s : ℕ) → s < slot_count → Scores st s (balance_at st s)
  scored s h =
      let i = slot_in st ok s h in
      record { is = refl; score = score_is st s i; range = balance_in st s i }

  pub height_good : (s : ℕ) → s < slot_count → leb zero_score (height_in st s) ≡ not (is_negative st s)
  unfolding is_negative
  height_good s h =
      let b = balance_at st s in
      let q = scored s h in
      ap (leb zero_score) (sym (height_of st s b q))
      ∙ offset_from b 0 q.range
      ∙ ap (le_z (pos 0)) q.score
      ∙ from_zero (score_in st s)

  pub degrees_rules : Rules (degrees_in st)
  unfolding degrees_in code_in
  degrees_rules =
      let j = joints st.codes (valid_facts st ok).params in
      record { lo_d = j.lo_d; d_hi = j.d_hi; score_d = j.score_d; out_d = omega arith }

-- ---- candidates
module _ (st : State) (time t s : ℕ) where
  tests : is_candidate st time t s ≡ true →
      (is_connected (peer_in st s) ≡ true) × (is_subscribed st t s ≡ true) × (eqb (peer_in st s).explicit 0 ≡ true)
      × (not (is_member st t s) ≡ true) × (not (is_negative st s) ≡ true)
      × (past_slack (get_or (peer_in st s).backoff t 0) time ≡ true)
  unfolding is_candidate
  tests e =
      let a = both (is_connected (peer_in st s)) _ e in
      let b = both (is_subscribed st t s) _ a.1 in
      let c = both (eqb (peer_in st s).explicit 0) _ b.1 in
      let d = both (not (is_member st t s)) _ c.1 in
      let f = both (not (is_negative st s)) _ d.1 in
      (a.0, b.0, c.0, d.0, f.0, f.1)

  pub candidate_connected : is_candidate st time t s ≡ true → is_connected (peer_in st s) ≡ true
  candidate_connected e = (tests e).0

  pub candidate_subscribed : is_candidate st time t s ≡ true → is_subscribed st t s ≡ true
  candidate_subscribed e = (tests e).1

  pub candidate_plain : is_candidate st time t s ≡ true → eqb (peer_in st s).explicit 0 ≡ true
  candidate_plain e = (tests e).2

  pub candidate_outside : is_candidate st time t s ≡ true → not (is_member st t s) ≡ true
  candidate_outside e = (tests e).3

  pub candidate_good : is_candidate st time t s ≡ true → not (is_negative st s) ≡ true
  candidate_good e = (tests e).4

  pub candidate_slack : is_candidate st time t s ≡ true → past_slack (get_or (peer_in st s).backoff t 0) time ≡ true
  candidate_slack e = (tests e).5

-- ---- the view
module _ (st : State) (time t ask : ℕ) (order : List ℕ) where
  pub view_apart :
      (s : ℕ) →
      at (view_in st time t ask order).members s ≡ true →
      at (view_in st time t ask order).candidates s ≡ true →
      ⊥
  unfolding view_in
  view_apart s m c =
      let a = (slots_in (is_member st t) slot_count s m).1 in
      let b = candidate_outside st time t s (slots_in (is_candidate st time t) slot_count s c).1 in
      false≢true (ap not (sym a) ∙ b)

  module _ (ok : valid st ≡ true) where
    -- the slots whose score is zero or more
    pub view_goods : (s : ℕ) → s < slot_count → at (goods (view_in st time t ask order)) s ≡ not (is_negative st s)
    unfolding view_in
    view_goods s h =
        let l = slots_length slot_count (height_in st) in
        from_at zero_score (by_slot slot_count (height_in st)) s (omega arith)
        ∙ ap (leb zero_score) (slots_at 0 (height_in st) slot_count s h)
        ∙ height_good st ok s h

    view_good : Sub (view_in st time t ask order).candidates (goods (view_in st time t ask order))
    unfolding view_in
    view_good s c =
        let q = slots_in (is_candidate st time t) slot_count s c in
        view_goods s q.0 ∙ candidate_good st time t s q.1

    module _ (right : is_permutation slot_count order ≡ true) where
      pub view_whole : Whole slot_count (view_in st time t ask order)
      unfolding view_in
      view_whole =
          record {
            members = slots_length slot_count (is_member st t);
            candidates = slots_length slot_count (is_candidate st time t);
            outbound = slots_length slot_count (λ s. eqb (peer_in st s).outbound 1);
            scores = slots_length slot_count (height_in st);
            permutation = right;
            good = view_good;
          }

      -- what demand 3 says of the mesh that is left
      pub view_kept :
          Maintained (degrees_in st) (view_in st time t ask order) (meshes_in st time t ask order).fifth
      unfolding meshes_in
      view_kept = maintained_keeps slot_count (degrees_in st) (view_in st time t ask order) (degrees_rules st ok) view_whole

      pub mesh_length : length (meshes_in st time t ask order).fifth ≡ slot_count
      unfolding meshes_in
      mesh_length = maintained_length slot_count (degrees_in st) (view_in st time t ask order) (degrees_rules st ok) view_whole

      -- at most one action a slot
      pub told_few :
          length
          (actions_of slot_count order (changes_of (view_in st time t ask order).members (meshes_in st time t ask order)))
          ≤ slot_count
      unfolding meshes_in view_in
      told_few =
          actions_length slot_count (degrees_in st) (view_in st time t ask order) (degrees_rules st ok) view_whole view_apart

-- ---- the walk that writes the mesh back
-- places of different topics are different
topic_of_place : (s v i t : ℕ) → v < 8 → t < 8 → place s v ≡ place i t → v ≡ t
topic_of_place s v i t h k e = omega arith

module _ (st : State) (time t : ℕ) (mesh : List Bool) where
  -- one turn, seen by whatever it may make of the state
  settle_case :
      (P : State → Type 0) (i : ℕ) (u : State) →
      P u →
      P (pruned (punished st t i u) i t (end_after time (prune_backoff st))) →
      P (on_topic u i t (λ r. into_mesh r time)) →
      P (settle_slot st time t mesh i u)
  unfolding settle_slot
  settle_case P i u stays out in' =
      cond_case P (is_member st t i) _ _
      (λ e. cond_case P (at mesh i) _ _ (λ f. stays) (λ f. out))
      (λ e. cond_case P (at mesh i) _ _ (λ f. in') (λ f. stays))

  turn_peer :
      {B : Type 0} (f : Peer → B) →
      ((p : Peer) (v end : ℕ) → f (with_end p v end) ≡ f p) →
      (i : ℕ) (u : State) (s : ℕ) →
      f (peer_in (settle_slot st time t mesh i u) s) ≡ f (peer_in u s)
  turn_peer f h i u s =
      settle_case (λ (v : State). f (peer_in v s) ≡ f (peer_in u s)) i u
      refl
      (pruned_reads (punished st t i u) i t (end_after time (prune_backoff st)) f s (λ p. h p t (end_after time (prune_backoff st)))
      ∙ ap f (punished_peer st t i u s))
      (ap f (peer_after_topic u (place i t) _ s))

  turn_apart :
      (j v i : ℕ) (u : State) →
      place j v ≢ place i t →
      is_member (settle_slot st time t mesh i u) v j ≡ is_member u v j
  turn_apart j v i u n =
      settle_case (λ (w : State). is_member w v j ≡ is_member u v j) i u
      refl
      (pruned_apart (punished st t i u) i t (end_after time (prune_backoff st)) j v n ∙ punished_apart st t i u j v n)
      (member_apart u i t (λ r. into_mesh r time) j v n)

  pub turn_kept : (i : ℕ) (u : State) → Kept u (settle_slot st time t mesh i u)
  turn_kept i u =
      settle_case (λ (w : State). Kept u w) i u
      (kept_self u)
      (kept_then (punished_kept st t i u) (kept_pruned (punished st t i u) i t (end_after time (prune_backoff st))))
      (kept_topic u (place i t) _)

  turn_sized : (i : ℕ) (u : State) → Sized u → Sized (settle_slot st time t mesh i u)
  turn_sized i u z =
      settle_case (λ (w : State). Sized w) i u
      z
      (sized_pruned (punished st t i u) i t (end_after time (prune_backoff st)) (punished_sized st t i u z))
      (sized_topic u z (place i t) _)

  -- what no turn changes
  pub settled_kept : (n : ℕ) → Kept st (iter n (settle_slot st time t mesh) st)
  settled_kept n = kept_iter (settle_slot st time t mesh) n st turn_kept

  pub settled_sized : (n : ℕ) → Sized st → Sized (iter n (settle_slot st time t mesh) st)
  settled_sized n z =
      iter_keeps (λ (u : State). Sized u) (settle_slot st time t mesh) n st z (λ i u h. turn_sized i u)

  pub settled_peer :
      {B : Type 0} (f : Peer → B) →
      ((p : Peer) (v end : ℕ) → f (with_end p v end) ≡ f p) →
      (n s : ℕ) →
      f (peer_in (iter n (settle_slot st time t mesh) st) s) ≡ f (peer_in st s)
  settled_peer f h n s =
      iter_kept (λ u. f (peer_in u s)) (settle_slot st time t mesh) n st (λ i u l. turn_peer f h i u s)

  module _ (k : t < 8) where
    -- another topic
    pub settled_else :
        (v : ℕ) →
        v < 8 →
        v ≢ t →
        (s : ℕ) →
        is_member (iter slot_count (settle_slot st time t mesh) st) v s ≡ is_member st v s
    settled_else v l n s =
        iter_kept (λ u. is_member u v s) (settle_slot st time t mesh) slot_count st
        (λ i u h. turn_apart s v i u (λ e. n (topic_of_place s v i t l k e)))

    -- before turn s, slot s is as it was at the start
    pub settled_before :
        (s : ℕ) → is_member (iter s (settle_slot st time t mesh) st) t s ≡ is_member st t s
    settled_before s =
        iter_before (λ u. is_member u t s) (settle_slot st time t mesh) s
        (λ i u n. turn_apart s t i u (place_slot i t s t k k (λ e. n (sym e))))
        s
        st
        (omega arith)

    -- the mesh of the topic is the one that is written back
    pub settled_member :
        Sized st → (s : ℕ) → s < slot_count → is_member (iter slot_count (settle_slot st time t mesh) st) t s ≡ at mesh s
    unfolding settle_slot
    settled_member z s h =
        let w = iter s (settle_slot st time t mesh) st in
        let zw : Sized w = settled_sized s z in
        let was : is_member w t s ≡ is_member st t s = settled_before s in
        iter_once (λ u. is_member u t s) (settle_slot st time t mesh) s
        (λ i u n. turn_apart s t i u (place_slot i t s t k k (λ e. n (sym e))))
        slot_count
        st
        h
        ∙ by_test (is_member (settle_slot st time t mesh s w) t s ≡ at mesh s) (is_member st t s)
        (λ m.
        by_test (is_member (settle_slot st time t mesh s w) t s ≡ at mesh s) (at mesh s)
        (λ a. rw (m, a) (was ∙ m))
        (λ a.
        rw (m, a)
        (pruned_member (punished st t s w) s t (end_after time (prune_backoff st)) (punished_sized st t s w zw) h k)))
        (λ m.
        by_test (is_member (settle_slot st time t mesh s w) t s ≡ at mesh s) (at mesh s)
        (λ a. rw (m, a) (member_in w s t zw h k time))
        (λ a. rw (m, a) (was ∙ m)))
