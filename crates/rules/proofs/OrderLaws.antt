-- The order of a reply's actions: those of leave are gathered by slot; those of a heartbeat are the five steps' sets, each walked in its
-- order, and what each set holds follows from what its step does. Assumes nothing.
use Rattle.std.proofs.Common.{Option, Some, None}
use Prim.Native.Nat.{ℕ, zero, suc, ◌+◌, ◌<◌, ◌≤◌}
use native.Mathlib.Omega.{arith}
use mathlib.Core.Path.{◌≡◌, refl, sym, ap, ap₂, ◌∙◌}
use mathlib.Core.Logic.{◌⊎◌, inl, inr, ⊎_elim}
use mathlib.Core.Bool.{Bool, true, false, cond, not, false≢true}
use mathlib.Core.List.{List, [], ◌∷◌, ◌++◌, map}
use borrow.Author.Tests.{eqb-true, not-true}
use lib.Dec.{eqb}
use lib.ListN.{length}
use Rattle.index.specs.Index.{gather}
use Rattle.index.proofs.Index.{both as halves, gather_first, gather_same}
use Rattle.index.proofs.Flags.{by_test, cond_case}
use Rattle.records.specs.declared.Groups.{Groups}
use Rattle.records.specs.Records.{State, slot_count, peer_in}
use Rattle.validity.specs.Valid.{valid}
use Rattle.lookup.specs.Find.{find_connected}
use Rattle.effects.specs.Actions.{Action, prune_of}
use Rattle.effects.specs.Effects.{is_joined, is_member, unsubscribe_backoff}
use Rattle.sets.specs.Sets.{at, both, except, ascending, in_order, is_permutation}
use Rattle.sets.proofs.WalkLaws.{except_at}
use Rattle.sets.proofs.SetLaws.{both_left, both_right, both_in}
use Rattle.sets.proofs.CountLaws.{fill_only}
use Rattle.sets.proofs.SlotLaws.{slots_in}
use Rattle.mesh.specs.Maintenance.{Meshes}
use Rattle.mesh.specs.Maintenance.{View}
use Rattle.mesh.specs.Maintenance.{Action as Tell, goods, mesh1, mesh4, meshes, changes_of, actions_on, actions_of}
use Rattle.mesh.proofs.Bound.{idle}
use Rattle.mesh.proofs.MaintenanceLaws.{Adds, len1, adds2, keeps3, adds4, adds5}
use Rattle.rules.specs.Reply.{Reply, ignored}
use Rattle.rules.specs.Calls.{Call, connect, disconnect, join, leave, subscribe, unsubscribe, graft, prune, deliver, rate, heartbeat}
use Rattle.rules.specs.Calls.{groups_of, decay, score}
use Rattle.rules.specs.Step.{is_negative, is_candidate, is_graylisted, is_heard, degrees_in, view_in, meshes_in, action_in, heartbeat_actions}
use Rattle.rules.specs.Step.{on_found, of_peer, connect_at, connect_reply, join_reply, leave_actions, leave_reply}
use Rattle.rules.specs.Step.{subscribe_reply, unsubscribe_reply, graft_refused, prune_reply, deliver_reply, decay_reply}
use Rattle.rules.specs.Step.{maintained_reply, heartbeat_reply, effect}
use Rattle.rules.specs.Order.{heads, telling, slots, ByStep, Ordered, ToldInOrder}
use Rattle.rules.proofs.ConnectLaws.{by_connect}
use Rattle.rules.proofs.CaseLaws.{by_gate, by_peer}
use Rattle.rules.proofs.GraftLaws.{by_graft}
use Rattle.rules.proofs.HeartbeatLaws.{view_apart, view_whole, view_goods, degrees_rules}

heads_append : (x y : List Action) → heads (x ++ y) ≡ heads x ++ heads y
unfolding heads
heads_append [] y = refl
heads_append (a ∷ x) y = ap (λ (l : List ℕ). a.kind ∷ a.id ∷ l) (heads_append x y)

-- ---- leave
module _ (st : State) (t : ℕ) where
  abbrev tell : ℕ → List Action
  tell s = cond (is_member st t s) (prune_of (peer_in st s) (unsubscribe_backoff st) ∷ []) []

  tells_from : (n i : ℕ) → heads (gather n (λ k. tell (i + k))) ≡ telling st 2 (is_member st t) (ascending i n)
  unfolding gather heads telling ascending
  tells_from zero i = refl
  tells_from (suc n) i =
      let z : i + 0 ≡ i = omega arith in
      let g : gather n (λ k. tell (i + suc k)) ≡ gather n (λ k. tell (suc i + k)) =
      gather_same n _ _ (λ k. ap tell (omega arith)) in
      ap heads (gather_first n (λ k. tell (i + k)))
      ∙ heads_append (tell (i + 0)) (gather n (λ k. tell (i + suc k)))
      ∙ ap₂ (λ (s : ℕ) (l : List Action). heads (tell s) ++ heads l) z g
      ∙ ap (λ (l : List ℕ). heads (tell i) ++ l) (tells_from n (suc i))
      ∙ cond_case
      (λ (l : List Action). heads l ++ telling st 2 (is_member st t) (ascending (suc i) n)
      ≡ cond (is_member st t i) (2 ∷ (peer_in st i).id ∷ telling st 2 (is_member st t) (ascending (suc i) n))
      (telling st 2 (is_member st t) (ascending (suc i) n)))
      (is_member st t i) (prune_of (peer_in st i) (unsubscribe_backoff st) ∷ []) []
      (λ e. rw e)
      (λ e. rw e)

  leave_order : (n : ℕ) → heads (leave_actions st t n) ≡ telling st 2 (is_member st t) (ascending 0 n)
  unfolding leave_actions
  leave_order n = ap heads (gather_same n _ _ (λ k. ap tell (omega arith))) ∙ tells_from n 0

-- ---- heartbeat: a set's actions
module _ (st : State) where
  tells_append : (x y : List Tell) → heads (map (action_in st) (x ++ y)) ≡ heads (map (action_in st) x) ++ heads (map (action_in st) y)
  unfolding heads
  tells_append [] y = refl
  tells_append (a ∷ x) y = ap (λ (l : List ℕ). a.kind ∷ (peer_in st a.slot).id ∷ l) (tells_append x y)

  tells_on : (k : ℕ) (p : List Bool) (d : List ℕ) → heads (map (action_in st) (actions_on k p d)) ≡ telling st k (at p) d
  unfolding heads telling actions_on in_order
  tells_on k p [] = refl
  tells_on k p (s ∷ d) =
      by_test (heads (map (action_in st) (actions_on k p (s ∷ d))) ≡ telling st k (at p) (s ∷ d)) (at p s)
      (λ e. rw e (ap (λ (l : List ℕ). k ∷ (peer_in st s).id ∷ l) (tells_on k p d)))
      (λ e. rw e (tells_on k p d))

module _ (st : State) (ok : valid st ≡ true) (time t ask : ℕ) (order : List ℕ) (right : is_permutation slot_count order ≡ true) where
  abbrev v : View
  v = view_in st time t ask order

  abbrev m : Meshes
  m = meshes_in st time t ask order

  -- in the one and not in the other
  gone : (a b : List Bool) (s : ℕ) → at (except a b) s ≡ true → (at a s ≡ true) × (at b s ≡ false)
  gone a b s e = let h = halves (at a s) (not (at b s)) (sym (except_at a b s) ∙ e) in (h.0, not-true (at b s) h.1)

  member_is : (s : ℕ) → at v.members s ≡ true → (s < slot_count) × (is_member st t s ≡ true)
  unfolding view_in
  member_is s e = slots_in (is_member st t) slot_count s e

  candidate_is : (s : ℕ) → at v.candidates s ≡ true → is_candidate st time t s ≡ true
  unfolding view_in
  candidate_is s e = (slots_in (is_candidate st time t) slot_count s e).1

  outbound_is : (s : ℕ) → at v.outbound s ≡ true → (peer_in st s).outbound ≡ 1
  unfolding view_in
  outbound_is s e = eqb-true (peer_in st s).outbound 1 (slots_in (λ s. eqb (peer_in st s).outbound 1) slot_count s e).1

  two : Adds slot_count v m.first m.second
  unfolding meshes_in meshes
  two = adds2 slot_count (degrees_in st) v (degrees_rules st ok) (view_whole st time t ask order ok right) m.first
      (len1 slot_count (degrees_in st) v (degrees_rules st ok) (view_whole st time t ask order ok right))

  three_length : length m.third ≡ slot_count
  unfolding meshes_in meshes
  three_length =
      (keeps3 slot_count (degrees_in st) v (degrees_rules st ok) (view_whole st time t ask order ok right) m.second two.len).len

  four_length : length m.fourth ≡ slot_count
  unfolding meshes_in meshes
  four_length =
      (adds4 slot_count (degrees_in st) v (degrees_rules st ok) (view_whole st time t ask order ok right) m.third three_length).len

  either : {P : Type 0} {a : Bool} → a ≡ false → (a ≡ true) ⊎ P → P
  either e h = ⊎_elim (λ y. absurd (false≢true (sym e ∙ y))) (λ p. p) h

  step1 : (s : ℕ) → at (except v.members m.first) s ≡ true → (is_member st t s ≡ true) × (is_negative st s ≡ true)
  unfolding meshes_in meshes mesh1
  step1 s e =
      let g = gone v.members m.first s e in
      let i = member_is s g.0 in
      by_test ((is_member st t s ≡ true) × (is_negative st s ≡ true)) (is_negative st s)
      (λ n. (i.1, n))
      (λ n.
      let good : at (goods v) s ≡ true = view_goods st time t ask order ok s i.0 ∙ ap not n in
      absurd (false≢true (sym g.1 ∙ both_in v.members (goods v) s g.0 good)))

  step2 : (s : ℕ) → at (except m.second m.first) s ≡ true → is_candidate st time t s ≡ true
  step2 s e =
      let g = gone m.second m.first s e in
      candidate_is s (either g.1 (two.only s g.0))

  step3 : (s : ℕ) → at (except m.second m.third) s ≡ true → (is_member st t s ≡ true) × (is_negative st s ≡ false)
  unfolding meshes_in meshes mesh1
  step3 s e =
      let g = gone m.second m.third s e in
      ⊎_elim
      (λ (q : m.second ≡ m.first).
      let a : at m.first s ≡ true = sym (ap (λ (l : List Bool). at l s) q) ∙ g.0 in
      let i = member_is s (both_left v.members (goods v) s a) in
      let b = sym (view_goods st time t ask order ok s i.0) ∙ both_right v.members (goods v) s a in
      (i.1, not-true (is_negative st s) b))
      (λ (q : m.third ≡ m.second). absurd (false≢true (sym g.1 ∙ ap (λ (l : List Bool). at l s) q ∙ g.0)))
      (idle slot_count (degrees_in st) v (degrees_rules st ok) (view_whole st time t ask order ok right) (view_apart st time t ask order)
      m.first)

  step4 : (s : ℕ) → at (except m.fourth m.third) s ≡ true → (is_candidate st time t s ≡ true) × ((peer_in st s).outbound ≡ 1)
  unfolding meshes_in meshes mesh4
  step4 s e =
      let g = gone m.fourth m.third s e in
      let b = either g.1 (fill_only (both v.candidates v.outbound) v.permutation _ m.third s g.0) in
      (candidate_is s (both_left v.candidates v.outbound s b), outbound_is s (both_right v.candidates v.outbound s b))

  step5 : (s : ℕ) → at (except m.fifth m.fourth) s ≡ true → is_candidate st time t s ≡ true
  unfolding meshes_in meshes
  step5 s e =
      let g = gone m.fifth m.fourth s e in
      let a = adds5 slot_count (degrees_in st) v (degrees_rules st ok) (view_whole st time t ask order ok right) m.fourth four_length in
      candidate_is s (either g.1 (a.only s g.0))

  by_step : ByStep st time t order (heartbeat_actions st t order m)
  unfolding heartbeat_actions actions_of changes_of view_in
  by_step =
      let p₁ = except v.members m.first in
      let p₂ = except m.second m.first in
      let p₃ = except m.second m.third in
      let p₄ = except m.fourth m.third in
      let p₅ = except m.fifth m.fourth in
      record {
        first = at p₁;
        second = at p₂;
        third = at p₃;
        fourth = at p₄;
        fifth = at p₅;
        list =
            simp (tells_append st)
            (ap₂ ◌++◌ (ap₂ ◌++◌ (ap₂ ◌++◌ (ap₂ ◌++◌ (tells_on st 2 p₁ slots) (tells_on st 1 p₂ order)) (tells_on st 2 p₃ slots))
            (tells_on st 1 p₄ order)) (tells_on st 1 p₅ order));
        negative = step1;
        fills = step2;
        rest = step3;
        outs = step4;
        better = step5;
      }

-- ---- the replies without an action
abbrev Quiet : Reply → Type 0
Quiet r = r.actions ≡ []

quiet_found : (r : Option ℕ) (f : ℕ → Reply) (q : Reply) → ((s : ℕ) → Quiet (f s)) → Quiet q → Quiet (on_found r f q)
quiet_found (Some s) f q h k = h s
quiet_found None f q h k = k

quiet_peer : (st : State) (id : ℕ) (f : ℕ → Reply) → ((s : ℕ) → Quiet (f s)) → Quiet (of_peer st id f)
quiet_peer st id f h = quiet_found (find_connected st id) f _ h refl

quiet_cond : (b : Bool) (o q : Reply) → Quiet o → Quiet q → Quiet (cond b o q)
quiet_cond b o q h k = cond_case Quiet b o q (λ e. h) (λ e. k)

quiet_connect : (st : State) (time id : ℕ) (groups : Groups) (flags : ℕ) (name : List ℕ) → Quiet (connect_reply st time id groups flags name)
unfolding connect_at
quiet_connect st time id groups flags name =
    by_connect Quiet st time id groups flags name (λ n. refl) (λ v s n c. refl) (λ v s n c r. refl) (λ v s n c r e. refl)
    (λ v n c r e. refl)

-- ---- every call
ordered_effect : (st : State) (c : Call) → valid st ≡ true → Ordered st c (effect st c).actions
unfolding effect join_reply leave_reply subscribe_reply unsubscribe_reply graft_refused prune_reply deliver_reply heartbeat_reply maintained_reply
    decay_reply
ordered_effect st (connect time id groups flags name) ok = quiet_connect st time id (groups_of groups) flags name
ordered_effect st (disconnect time id) ok = quiet_peer st id _ (λ s. refl)
ordered_effect st (join time t) ok = quiet_cond (is_joined st t) _ _ refl refl
ordered_effect st (leave time t) ok =
    cond_case (λ (r : Reply). Ordered st (leave time t) r.actions) (is_joined st t) _ (ignored st time)
    (λ j. inr (leave_order st t slot_count))
    (λ j. inl refl)
ordered_effect st (subscribe time id t) ok = quiet_peer st id _ (λ s. quiet_cond (is_graylisted st s) _ _ refl refl)
ordered_effect st (unsubscribe time id t) ok = quiet_peer st id _ (λ s. quiet_cond (is_graylisted st s) _ _ refl refl)
ordered_effect st (graft time id t) ok =
    by_peer (λ (r : Reply). length r.actions ≤ 1) st id _ (omega arith)
    (λ s h on.
    by_graft (λ (r : Reply). length r.actions ≤ 1) st time t s
    (λ e. omega arith)
    (λ e m. omega arith)
    (λ e. omega arith)
    (λ e. omega arith)
    (λ e. omega arith))
ordered_effect st (prune time id t seconds) ok = quiet_peer st id _ (λ s. quiet_cond (is_heard st t s) _ _ refl refl)
ordered_effect st (deliver time id t kind) ok = quiet_peer st id _ (λ s. quiet_cond (is_heard st t s) _ _ refl refl)
ordered_effect st (rate time id p5) ok = quiet_peer st id _ (λ s. refl)
ordered_effect st (heartbeat time t ask order) ok =
    cond_case (λ (r : Reply). Ordered st (heartbeat time t ask order) r.actions) (is_permutation slot_count order) _ _
    (λ right.
    cond_case (λ (r : Reply). Ordered st (heartbeat time t ask order) r.actions) (is_joined st t) (maintained_reply st time t ask order)
    (ignored st time)
    (λ j. inr (by_step st ok time t ask order right))
    (λ j. inl refl))
    (λ wrong. inl refl)
ordered_effect st (decay time) ok = refl
ordered_effect st (score time id) ok = quiet_peer st id _ (λ s. refl)

-- a refused call has no action
ordered_none : (st : State) (c : Call) → Ordered st c []
ordered_none st (connect time id groups flags name) = refl
ordered_none st (disconnect time id) = refl
ordered_none st (join time t) = refl
ordered_none st (leave time t) = inl refl
ordered_none st (subscribe time id t) = refl
ordered_none st (unsubscribe time id t) = refl
ordered_none st (graft time id t) = omega arith
ordered_none st (prune time id t seconds) = refl
ordered_none st (deliver time id t kind) = refl
ordered_none st (rate time id p5) = refl
ordered_none st (heartbeat time t ask order) = inl refl
ordered_none st (decay time) = refl
ordered_none st (score time id) = refl

pub told_in_order : ToldInOrder
told_in_order st c room =
    by_gate (λ (r : Reply). Ordered st c r.actions) st c room
    (λ a e. ordered_none st c)
    (λ p. ordered_effect st c p.router)
