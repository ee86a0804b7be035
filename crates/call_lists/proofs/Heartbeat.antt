-- Heartbeat: the topic's mesh becomes the one that maintenance leaves, and what `Maintained` (crate mesh) says of that list by slot is
-- said here of the state, with each peer's direction; the other topics stay.
-- Assumes nothing.
use Prim.Native.Nat.{ℕ, ◌+◌, ◌<◌, ◌≤◌}
use native.Mathlib.Omega.{arith}
use mathlib.Core.Path.{◌≡◌, refl, sym, ap, ◌∙◌}
use mathlib.Core.Logic.{◌≢◌, ◌⊎◌, inl, inr, ⊎_elim}
use mathlib.Core.Bool.{Bool, true, false, not, ◌&&◌}
use mathlib.Core.List.{List}
use lib.Dec.{eqb}
use lib.ListN.{length}
use borrow.Author.Tests.{eqb-true, eqb-false, not-true}
use Rattle.index.specs.Index.{count, iter}
use Rattle.index.proofs.Index.{count_same}
use Rattle.index.proofs.Flags.{by_test, cond_case}
use Rattle.params.specs.declared.Params.{Params}
use Rattle.records.specs.declared.Peer.{Peer}
use Rattle.records.specs.Records.{State, slot_count, peer_in, set_clock, topic_in}
use Rattle.layout.specs.View.{Sized}
use Rattle.layout.proofs.StateLaws.{peer_after_clock, codes_after_clock, setup_after_clock}
use Rattle.validity.specs.Valid.{valid}
use Rattle.effects.specs.Effects.{is_joined, is_member, with_end}
use Rattle.sets.specs.Sets.{at, size, is_permutation}
use Rattle.sets.proofs.SetLaws.{both_left, both_right, both_in}
use Rattle.sets.proofs.SlotLaws.{slots_length, slots_at, slots_in, size_count, both_count, except_count}
use Rattle.mesh.specs.Maintenance.{View}
use Rattle.mesh.specs.Maintenance.{goods, Maintained, InPool as OfPool}
use Rattle.rules.specs.declared.Answer.TheVariants.{NotPermutation}
use Rattle.rules.specs.Reply.{Reply, number_of, refused, ignored}
use Rattle.rules.specs.Step.{is_negative, is_candidate, degrees_in, view_in, meshes_in, settle_slot, maintained_reply, heartbeat_reply}
use Rattle.rules.proofs.HeartbeatLaws.{candidate_connected, view_goods, view_kept, mesh_length, settled_kept, settled_peer, settled_else}
use Rattle.rules.proofs.HeartbeatLaws.{settled_member}
use Rattle.call_lists.specs.Demand3.{d_lo, d_hi, d_out, InPool}
use Rattle.call_lists.proofs.Fewer.{fewer_self}
use Rattle.call_lists.proofs.Frames.{fewer_still}
use Rattle.call_lists.proofs.Standing.{Standing, is_inbound, inbounds, inbounds_less, member_connected, degree_is}
use Rattle.call_lists.proofs.Replies.{Stays, after_fewer}

-- what demand 3 says of the topic after a heartbeat: st is the state at its start, u the one that it left
pub record MaintainedIn (params : Params) (dir : ℕ → Bool) (st u : State) (time t : ℕ) : Type 0 where
  pub good : (s : ℕ) → s < slot_count → is_member u t s ≡ true → is_negative st s ≡ false
  pub outs :
      (d_out params ≤ count slot_count (λ s. is_member u t s && dir (peer_in u s).id)) ⊎
      ((s : ℕ) → s < slot_count → InPool st time t s → dir (peer_in u s).id ≡ true → is_member u t s ≡ true)
  pub enough : (d_lo params ≤ count slot_count (is_member u t)) ⊎ ((s : ℕ) → s < slot_count → InPool st time t s → is_member u t s ≡ true)

module _
    (params : Params)
    (dir : ℕ → Bool)
    (st : State)
    (h : Standing params dir st)
    (time t ask : ℕ)
    (order : List ℕ)
    (k : t < 8)
  where
    abbrev mesh : List Bool
    mesh = (meshes_in st time t ask order).fifth

    abbrev view : View
    view = view_in st time t ask order

    abbrev walked : State
    walked = iter slot_count (settle_slot st time t mesh) st

    abbrev left : State
    left = set_clock walked time

    -- ---- what the walk leaves
    same_status : (s : ℕ) → (peer_in left s).status ≡ (peer_in st s).status
    unfolding with_end
    same_status s =
        ap (λ (p : Peer). p.status) (peer_after_clock walked time s)
        ∙ settled_peer st time t mesh (λ (p : Peer). p.status) (λ p v end. refl) slot_count s

    same_id : (s : ℕ) → (peer_in left s).id ≡ (peer_in st s).id
    unfolding with_end
    same_id s =
        ap (λ (p : Peer). p.id) (peer_after_clock walked time s)
        ∙ settled_peer st time t mesh (λ (p : Peer). p.id) (λ p v end. refl) slot_count s

    same_outbound : (s : ℕ) → (peer_in left s).outbound ≡ (peer_in st s).outbound
    unfolding with_end
    same_outbound s =
        ap (λ (p : Peer). p.outbound) (peer_after_clock walked time s)
        ∙ settled_peer st time t mesh (λ (p : Peer). p.outbound) (λ p v end. refl) slot_count s

    member_here : (s : ℕ) → s < slot_count → is_member left t s ≡ at mesh s
    unfolding set_clock is_member topic_in
    member_here s l = settled_member st time t mesh k h.size s l

    member_else : (v : ℕ) → v < 8 → v ≢ t → (s : ℕ) → is_member left v s ≡ is_member st v s
    unfolding set_clock is_member topic_in
    member_else v b n s = settled_else st time t mesh k v b n s

    -- ---- the view's sets, by slot
    outs_at : (s : ℕ) → s < slot_count → at view.outbound s ≡ eqb (peer_in st s).outbound 1
    unfolding view_in
    outs_at s l = slots_at false (λ i. eqb (peer_in st i).outbound 1) slot_count s l

    -- members and candidates are connected, and so the view has their direction
    pool_connected : (s : ℕ) → s < slot_count → InPool st time t s → (peer_in st s).status ≡ 1
    pool_connected s l p =
        ⊎_elim
        (λ m. member_connected st h.router t s k l m.0)
        (λ c. eqb-true (peer_in st s).status 1 (candidate_connected st time t s c))
        p

    directed : (s : ℕ) → s < slot_count → InPool st time t s → at view.outbound s ≡ dir (peer_in left s).id
    directed s l p = outs_at s l ∙ h.tied s l (pool_connected s l p) ∙ sym (ap dir (same_id s))

    -- the pool of the statement is the view's
    to_view : (s : ℕ) → s < slot_count → InPool st time t s → OfPool view s
    unfolding view_in
    to_view s l p =
        ⊎_elim
        (λ m.
        inl
        (both_in view.members (goods view) s
        (slots_at false (is_member st t) slot_count s l ∙ m.0)
        (view_goods st time t ask order h.router s l ∙ ap not m.1)))
        (λ c. inr (slots_at false (is_candidate st time t) slot_count s l ∙ c))
        p

    of_view : (s : ℕ) → s < slot_count → OfPool view s → InPool st time t s
    unfolding view_in
    of_view s l p =
        ⊎_elim
        (λ b.
        inl (
          (slots_in (is_member st t) slot_count s (both_left view.members (goods view) s b)).1,
          not-true (is_negative st s)
              (sym (view_goods st time t ask order h.router s l) ∙ both_right view.members (goods view) s b),
        ))
        (λ c. inr (slots_in (is_candidate st time t) slot_count s c).1)
        p

    module _ (right : is_permutation slot_count order ≡ true) where
      kept : Maintained (degrees_in st) view mesh
      kept = view_kept st time t ask order h.router right

      len : length mesh ≡ slot_count
      len = mesh_length st time t ask order h.router right

      len_outs : length view.outbound ≡ slot_count
      unfolding view_in
      len_outs = slots_length slot_count (λ s. eqb (peer_in st s).outbound 1)

      degrees : ((degrees_in st).lo ≡ d_lo params) × ((degrees_in st).hi ≡ d_hi params) × ((degrees_in st).out ≡ d_out params)
      unfolding degrees_in
      degrees = (degree_is st params h.codes 0, degree_is st params h.codes 2, degree_is st params h.codes 3)

      -- ---- the invariant stays
      few_here : inbounds left t ≤ d_hi params + 2
      unfolding inbounds
      few_here =
          let a : inbounds left t ≡ count slot_count (λ s. at mesh s && not (at view.outbound s)) =
          count_same (is_inbound left t) (λ s. at mesh s && not (at view.outbound s)) slot_count (λ s l.
          rw (member_here s l, same_outbound s, outs_at s l)) in
          omega (arith, except_count mesh view.outbound slot_count len, kept.inbound, degrees.1)

      few_else : (v : ℕ) → v < 8 → v ≢ t → inbounds left v ≤ inbounds st v
      few_else v b n = inbounds_less st left v (λ s l m. (sym (member_else v b n s) ∙ m, same_outbound s))

      stands : Sized left → valid left ≡ true → Standing params dir left
      stands size v =
          record {
            size = size;
            router = v;
            codes = codes_after_clock walked time ∙ (settled_kept st time t mesh slot_count).codes ∙ h.codes;
            setup = setup_after_clock walked time ∙ (settled_kept st time t mesh slot_count).setup ∙ h.setup;
            tied = λ s l on.
                ap (λ (n : ℕ). eqb n 1) (same_outbound s)
                ∙ h.tied s l (sym (same_status s) ∙ on)
                ∙ sym (ap dir (same_id s));
            few = λ w b.
                by_test _ (eqb w t)
                (λ z. rw (eqb-true w t z) few_here)
                (λ z. omega (arith, few_else w b (eqb-false w t z), h.few w b));
          }

      -- ---- the topic that was maintained
      maintained_good : (s : ℕ) → s < slot_count → is_member left t s ≡ true → is_negative st s ≡ false
      maintained_good s l m =
          not-true (is_negative st s)
          (sym (view_goods st time t ask order h.router s l) ∙ kept.only s (sym (member_here s l) ∙ m))

      -- an outbound member, by the list and by the directions
      outbound_same : (s : ℕ) → s < slot_count → at mesh s && at view.outbound s ≡ is_member left t s && dir (peer_in left s).id
      outbound_same s l =
          by_test _ (at mesh s)
          (λ m. rw (member_here s l, m) (directed s l (of_view s l (kept.pool s m))))
          (λ m. rw (member_here s l, m))

      maintained_outs :
          (d_out params ≤ count slot_count (λ s. is_member left t s && dir (peer_in left s).id)) ⊎
          ((s : ℕ) → s < slot_count → InPool st time t s → dir (peer_in left s).id ≡ true → is_member left t s ≡ true)
      maintained_outs =
          ⊎_elim
          (λ b.
          let c = count_same (λ s. at mesh s && at view.outbound s) (λ s. is_member left t s && dir (peer_in left s).id) slot_count
          outbound_same in
          inl (omega (arith, both_count mesh view.outbound slot_count len len_outs, degrees.2)))
          (λ f. inr (λ s l p o. member_here s l ∙ f s (to_view s l p) (directed s l p ∙ o)))
          kept.outs

      maintained_enough :
          (d_lo params ≤ count slot_count (is_member left t)) ⊎
          ((s : ℕ) → s < slot_count → InPool st time t s → is_member left t s ≡ true)
      maintained_enough =
          ⊎_elim
          (λ b.
          let c = count_same (is_member left t) (at mesh) slot_count member_here in
          inl (omega (arith, size_count mesh slot_count len, degrees.0)))
          (λ f. inr (λ s l p. member_here s l ∙ f s (to_view s l p)))
          kept.lower

      maintained_in : MaintainedIn params dir st left time t
      maintained_in = record { good = maintained_good; outs = maintained_outs; enough = maintained_enough }

    -- ---- every end
    pub stands_heartbeat : Stays params dir (heartbeat_reply st time t ask order)
    unfolding heartbeat_reply maintained_reply
    stands_heartbeat =
        cond_case (Stays params dir) (is_permutation slot_count order) _ (refused NotPermutation st)
        (λ right.
        cond_case (Stays params dir) (is_joined st t) (maintained_reply st time t ask order) (ignored st time)
        (λ j. stands right)
        (λ j. after_fewer params dir st h _ (fewer_still st time)))
        (λ wrong. after_fewer params dir st h st (fewer_self st))

    -- 0 means that the topic was maintained
    abbrev Done : Reply → Type 0
    Done r = number_of r.answer ≡ 0 → MaintainedIn params dir st r.state time t

    pub maintained_heartbeat : Done (heartbeat_reply st time t ask order)
    unfolding heartbeat_reply maintained_reply
    maintained_heartbeat =
        cond_case Done (is_permutation slot_count order) _ (refused NotPermutation st)
        (λ right.
        cond_case Done (is_joined st t) (maintained_reply st time t ask order) (ignored st time)
        (λ j zero. maintained_in right)
        (λ j zero. absurd (omega arith)))
        (λ wrong zero. absurd (omega arith))
