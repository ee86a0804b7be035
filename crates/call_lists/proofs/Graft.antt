-- GRAFT in: the one member that may come is the peer itself, and an inbound one only while the mesh has fewer than D_hi members.
-- Assumes nothing.
use Rattle.index.proofs.Kit.{ℕ, ◌+◌, ◌<◌, ◌≤◌, arith, ◌≡◌, refl, sym, ap, ◌∙◌, Bool, true, false, one, by_test}
use mathlib.Core.Logic.{◌≢◌}
use mathlib.Core.Bool.{◌&&◌, and-false}
use mathlib.Core.List.{[]}
use lib.Dec.{eqb, leb}
use borrow.Author.Tests.{eqb-true, eqb-false, eq-eqb, leb-false}
use Rattle.index.proofs.Index.{one_le}
use Rattle.params.specs.declared.Params.{Params}
use Rattle.records.specs.declared.Peer.{Peer}
use Rattle.records.specs.Records.{State, place, peer_in, topic_in, set_clock, slot_count}
use Rattle.layout.specs.View.{Sized}
use Rattle.layout.proofs.StateLaws.{peer_after_clock, peer_after_topic, codes_after_clock, setup_after_clock, codes_after_topic}
use Rattle.layout.proofs.StateLaws.{setup_after_topic}
use Rattle.validity.specs.Valid.{valid}
use Rattle.validity.proofs.ValidLaws.{valid_facts}
use Rattle.effects.specs.Effects.{high_degree, into_mesh, on_topic, is_member, mesh_size}
use Rattle.effects.proofs.Walks.{count_change}
use Rattle.effects.proofs.EffectLaws.{place_slot, member_apart}
use Rattle.rules.specs.Reply.{done}
use Rattle.rules.specs.Step.{seen_in, is_crowded, graft_reply}
use Rattle.rules.proofs.GraftLaws.{Entering, by_graft}
use Rattle.call_lists.specs.Demand3.{d_hi}
use Rattle.call_lists.proofs.Fewer.{Fewer}
use Rattle.call_lists.proofs.Frames.{fewer_still, fewer_refused, fewer_raised}
use Rattle.call_lists.proofs.Standing.{Standing, is_inbound, inbounds, inbounds_less, inbounds_most, degree_is}
use Rattle.call_lists.proofs.Replies.{Stays, after_fewer}

module _
    (params : Params)
    (dir : ℕ → Bool)
    (st : State)
    (h : Standing params dir st)
    (time t s : ℕ)
    (k : t < 8)
    (l : s < slot_count)
  where
    -- ---- the peer is taken in
    abbrev u : State
    u = on_topic st s t (λ r. into_mesh r time)

    abbrev left : State
    left = set_clock u time

    same_peer : (i : ℕ) → peer_in left i ≡ peer_in st i
    same_peer i = peer_after_clock u time i ∙ peer_after_topic st (place s t) (into_mesh (topic_in st (place s t)) time) i

    same_member : (v i : ℕ) → place i v ≢ place s t → is_member left v i ≡ is_member st v i
    unfolding set_clock topic_in is_member
    same_member v i n = member_apart st s t (λ r. into_mesh r time) i v n

    same_inbound : (v i : ℕ) → place i v ≢ place s t → is_inbound left v i ≡ is_inbound st v i
    same_inbound v i n = rw (same_member v i n, same_peer i)

    -- the other topics
    few_apart : (v : ℕ) → v < 8 → v ≢ t → inbounds left v ≤ inbounds st v
    few_apart v b n =
        inbounds_less st left v (λ i c m.
        (sym (same_member v i (λ (e : place i v ≡ place s t). n (omega arith))) ∙ m, ap (λ (p : Peer). p.outbound) (same_peer i)))

    module _ (e : Entering (seen_in st t s) (is_crowded st t) time t) where
      -- an inbound peer found room
      room : eqb (peer_in st s).outbound 1 ≡ false → mesh_size st t < d_hi params
      unfolding is_crowded
      room o =
          let f = ((valid_facts st h.router).peer s l).outbound in
          let z : eqb (peer_in st s).outbound 0 ≡ true =
          eq-eqb (peer_in st s).outbound 0 (let n = eqb-false (peer_in st s).outbound 1 o in omega (arith, n)) in
          let g : leb (high_degree st) (mesh_size st t) ≡ false =
          first_no (leb (high_degree st) (mesh_size st t)) (eqb (peer_in st s).outbound 0) e.room z in
          omega (arith, leb-false (high_degree st) (mesh_size st t) g, degree_is st params h.codes 2)
        where
          first_no : (a b : Bool) → a && b ≡ false → b ≡ true → a ≡ false
          first_no true b p q = sym q ∙ p
          first_no false b p q = refl

      few_here : inbounds left t ≤ d_hi params + 2
      unfolding inbounds mesh_size
      few_here =
          let c : inbounds left t + one (is_inbound st t s) ≡ inbounds st t + one (is_inbound left t s) =
          count_change (is_inbound left t) (is_inbound st t) s slot_count l (λ i b n. same_inbound t i (place_slot s t i t k k n)) in
          let was = h.few t k in
          by_test _ (eqb (peer_in st s).outbound 1)
          (λ o. let q : one (is_inbound left t s) ≡ 0 = rw (same_peer s, o, and-false (is_member left t s)) in omega arith)
          (λ o. omega (arith, room o, inbounds_most st t, one_le (is_inbound left t s)))

      taken : Stays params dir (done u time [])
      taken size v =
          record {
            size = size;
            router = v;
            codes = codes_after_clock u time ∙ codes_after_topic st (place s t) _ ∙ h.codes;
            setup = setup_after_clock u time ∙ setup_after_topic st (place s t) _ ∙ h.setup;
            tied = λ i b. rw (same_peer i) (h.tied i b);
            few = λ w b.
                by_test _ (eqb w t)
                (λ z. rw (eqb-true w t z) few_here)
                (λ z. omega (arith, few_apart w b (eqb-false w t z), h.few w b));
          }

    -- ---- every end
    less : (x : State) → Fewer st x → Sized x → valid x ≡ true → Standing params dir x
    less x f = after_fewer params dir st h x f

    pub stands_graft : Stays params dir (graft_reply st time t s)
    stands_graft =
        by_graft (Stays params dir) st time t s
        (λ e. less _ (fewer_still st time))
        (λ e m. less _ (fewer_still st time))
        (λ e. less _ (fewer_refused st time t s))
        (λ e. less _ (fewer_raised st time t s))
        taken
