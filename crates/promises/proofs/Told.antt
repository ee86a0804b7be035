-- What a reply's actions tell is what was done: heartbeat by slot, from the sets of its five steps, and leave by its walk; an id is one
-- slot's.
-- Assumes nothing.
use Prim.Native.Nat.{ℕ, zero, suc, ◌+◌, ◌≤◌, ◌<◌}
use native.Mathlib.Omega.{arith}
use native.Mathlib.Nat.{not-suc-le-zero}
use mathlib.Core.Path.{◌≡◌, refl, sym, ap, ◌∙◌}
use mathlib.Core.Logic.{◌≢◌}
use mathlib.Core.Bool.{Bool, true, false, cond, not, ◌&&◌}
use mathlib.Core.List.{List, [], ◌∷◌, ◌++◌, map}
use lib.Dec.{eqb, leb}
use lib.ListN.{get_or-eq_default}
use borrow.Author.Tests.{eqb-true, eqb-false, eq-eqb, ne_eqb}
use Rattle.index.specs.Index.{one, gather, iter}
use Rattle.index.proofs.Index.{both, iter_keeps}
use Rattle.index.proofs.Flags.{by_test, by_order, cond_case}
use Rattle.records.specs.declared.Peer.{Peer}
use Rattle.records.specs.Records.{State, slot_count, no_peer, place, peer_in, topic_in, set_clock, set_joined}
use Rattle.layout.specs.View.{Sized}
use Rattle.validity.specs.Valid.{valid}
use Rattle.validity.proofs.ValidLaws.{valid_facts}
use Rattle.validity.proofs.Keeps.{ids_apart}
use Rattle.effects.specs.Actions.{Action, prune_of}
use Rattle.effects.specs.Effects.{is_joined, is_member, unsubscribe_backoff, pruned, end_after}
use Rattle.effects.proofs.Walks.{iter_once, iter_before}
use Rattle.effects.proofs.EffectLaws.{place_slot, pruned_member, pruned_apart, sized_pruned}
use Rattle.sets.specs.Sets.{by_slot, at, is_permutation}
use Rattle.sets.proofs.SlotLaws.{slots_at}
use Rattle.mesh.specs.Maintenance.{Action as Tell, changes_of, actions_of}
use Rattle.rules.specs.declared.Answer.{Answer}
use Rattle.rules.specs.declared.Answer.TheVariants.{NotPermutation}
use Rattle.rules.specs.Reply.{Reply, refused, ignored}
use Rattle.rules.specs.Calls.{leave, heartbeat, topic_ok}
use Rattle.rules.specs.Step.{punished, leave_slot, leave_actions, leave_reply, action_in, degrees_in, view_in, meshes_in, heartbeat_actions}
use Rattle.rules.specs.Step.{maintained_reply, heartbeat_reply, effect}
use Rattle.rules.proofs.CaseLaws.{topic_in_lem, arguments, by_gate}
use Rattle.rules.proofs.HeartbeatLaws.{candidate_connected, view_apart, view_whole, degrees_rules, settled_member}
use Rattle.rules.proofs.PunishedLaws.{punished_apart, punished_sized}
use Rattle.call_lists.proofs.Standing.{member_connected}
use Rattle.promises.specs.Told.{times, Told, ToldIsDone}
use Rattle.promises.proofs.Slots.{times_at, grafts_at, prunes_at, others_at, past_at}
use Rattle.promises.proofs.Members.{new_candidate}

-- ---- an id is one slot's
past_peer : (st : State) → Sized st → (x : ℕ) → slot_count ≤ x → peer_in st x ≡ no_peer
unfolding peer_in
past_peer st size x l = get_or-eq_default st.peers no_peer {n = x} (omega (arith, size.peers, l))

pub id_is :
    (st : State) → Sized st → valid st ≡ true → (s : ℕ) → s < slot_count → (peer_in st s).status ≢ 0 →
    (x : ℕ) → (peer_in st x).id ≡ (peer_in st s).id → x ≡ s
id_is st size ok s h on x e =
    let f = valid_facts st ok in
    let used = (f.peer s h).used on in
    by_order (x ≡ s) x slot_count
    (λ l. by_test (x ≡ s) (eqb x s) (eqb-true x s) (λ n. absurd (omega (arith, used, ids_apart st f s x h l (eqb-false x s n) e))))
    (λ l. let z : (peer_in st x).id ≡ 0 = ap (λ (p : Peer). p.id) (past_peer st size x l) in absurd (omega (arith, used, e, z)))

-- ---- actions on slots, and to ids
module _ (st : State) where
  pub times_map :
      (k s : ℕ) → ((x : ℕ) → (peer_in st x).id ≡ (peer_in st s).id → x ≡ s) → (l : List Tell) →
      times k (peer_in st s).id (map (action_in st) l) ≡ times_at k s l
  unfolding times times_at
  times_map k s one-slot [] = refl
  times_map k s one-slot (a ∷ l) =
      let q : eqb (peer_in st a.slot).id (peer_in st s).id ≡ eqb a.slot s =
      by_test _ (eqb a.slot s)
      (λ e. rw e (eq-eqb _ _ (ap (λ (x : ℕ). (peer_in st x).id) (eqb-true a.slot s e))))
      (λ e. rw e (ne_eqb _ _ (λ z. eqb-false a.slot s e (one-slot a.slot z)))) in
      let w = ap (λ (b : Bool). one (eqb a.kind k && b)) q in
      omega (arith, w, times_map k s one-slot l)

  pub someone : (k id : ℕ) (l : List Tell) → times k id (map (action_in st) l) ≢ 0 → (x : ℕ) × (times_at k x l ≢ 0) × ((peer_in st x).id ≡ id)
  unfolding times times_at
  someone k id [] n = absurd (n refl)
  someone k id (a ∷ l) n =
      by_test _ (eqb a.kind k && eqb (peer_in st a.slot).id id)
      (λ e.
      let q = both (eqb a.kind k) (eqb (peer_in st a.slot).id id) e in
      let z : one (eqb a.kind k && eqb a.slot a.slot) ≡ 1 = rw (q.0, eq-eqb a.slot a.slot refl) in
      (a.slot, λ y. omega (arith, y, z), eqb-true _ _ q.1))
      (λ e.
      let z : one (eqb a.kind k && eqb (peer_in st a.slot).id id) ≡ 0 = rw e in
      let w = someone k id l (λ y. n (omega (arith, y, z))) in
      (w.0, λ y. w.1 (omega (arith, y)), w.2))

-- ---- tests counted as 0 or 1
none : (b : Bool) → one (b && false) ≡ 0
none true = refl
none false = refl

all : (b : Bool) → one (b && true) ≡ one b
all true = refl
all false = refl

same_none : (m : Bool) → 0 ≡ one (m && not m)
same_none true = refl
same_none false = refl

same_none' : (m : Bool) → 0 ≡ one (not m && m)
same_none' true = refl
same_none' false = refl

-- ---- a reply with no action that moves nobody
told_refused : (st : State) (t : ℕ) (a : Answer) → Told st t (refused a st)
unfolding times
told_refused st t a =
    record {
      grafts = λ s h on. same_none' (is_member st t s);
      prunes = λ s h on. same_none (is_member st t s);
      only = λ k id n. absurd (n refl);
    }

told_ignored : (st : State) (t time : ℕ) → Told st t (ignored st time)
unfolding times set_clock is_member topic_in
told_ignored st t time =
    record {
      grafts = λ s h on. same_none' (is_member st t s);
      prunes = λ s h on. same_none (is_member st t s);
      only = λ k id n. absurd (n refl);
    }

-- ---- heartbeat
module _ (st : State) (size : Sized st) (ok : valid st ≡ true) (time t ask : ℕ) (order : List ℕ) (k : t < 8) where
  module _ (right : is_permutation slot_count order ≡ true) where
    abbrev mesh : List Bool
    mesh = (meshes_in st time t ask order).fifth

    abbrev acts : List Tell
    acts = actions_of slot_count order (changes_of (by_slot slot_count (is_member st t)) (meshes_in st time t ask order))

    abbrev left : State
    left = (maintained_reply st time t ask order).state

    pub left_member : (s : ℕ) → s < slot_count → is_member left t s ≡ at mesh s
    unfolding maintained_reply set_clock is_member topic_in
    left_member s l = settled_member st time t mesh k size s l

    grafted : (s : ℕ) → s < slot_count → times_at 1 s acts ≡ one (not (is_member st t s) && is_member left t s)
    unfolding meshes_in view_in
    grafted s l =
        grafts_at slot_count (degrees_in st) (view_in st time t ask order) (degrees_rules st ok) (view_whole st time t ask order ok right)
        (view_apart st time t ask order) s l
        ∙ ap (λ (b : Bool). one (not b && at mesh s)) (slots_at false (is_member st t) slot_count s l)
        ∙ ap (λ (b : Bool). one (not (is_member st t s) && b)) (sym (left_member s l))

    pruned_told : (s : ℕ) → s < slot_count → times_at 2 s acts ≡ one (is_member st t s && not (is_member left t s))
    unfolding meshes_in view_in
    pruned_told s l =
        prunes_at slot_count (degrees_in st) (view_in st time t ask order) (degrees_rules st ok) (view_whole st time t ask order ok right)
        (view_apart st time t ask order) s l
        ∙ ap (λ (b : Bool). one (b && not (at mesh s))) (slots_at false (is_member st t) slot_count s l)
        ∙ ap (λ (b : Bool). one (is_member st t s && not b)) (sym (left_member s l))

    other_told : (s : ℕ) → s < slot_count → (j : ℕ) → eqb 1 j ≡ false → eqb 2 j ≡ false → times_at j s acts ≡ 0
    unfolding meshes_in view_in
    other_told s l =
        others_at slot_count (degrees_in st) (view_in st time t ask order) (degrees_rules st ok) (view_whole st time t ask order ok right)
        (view_apart st time t ask order) s l

    past_told : (s j : ℕ) → slot_count ≤ s → times_at j s acts ≡ 0
    unfolding meshes_in view_in
    past_told =
        past_at slot_count (degrees_in st) (view_in st time t ask order) (degrees_rules st ok) (view_whole st time t ask order ok right)
        (view_apart st time t ask order)

    -- who is told something is connected
    told_connected : (j x : ℕ) → times_at j x acts ≢ 0 → (x < slot_count) × ((peer_in st x).status ≡ 1)
    told_connected j x n =
        by_order _ x slot_count
        (λ l. (
          l,
          by_test _ (is_member st t x)
              (λ m. member_connected st ok t x k l m)
              (λ m.
              by_test _ (at mesh x)
              (λ a.
              eqb-true _ _ (candidate_connected st time t x (new_candidate st time t ask order ok right x a m)))
              (λ a.
              let b : is_member left t x ≡ false = left_member x l ∙ a in
              let g : one (not (is_member st t x) && is_member left t x) ≡ 0 = rw (m, b) in
              let p : one (is_member st t x && not (is_member left t x)) ≡ 0 = rw m in
              by_test _ (eqb 1 j)
              (λ e. absurd (n (rw (← (eqb-true 1 j e)) (grafted x l ∙ g))))
              (λ e.
              by_test _ (eqb 2 j)
              (λ f. absurd (n (rw (← (eqb-true 2 j f)) (pruned_told x l ∙ p))))
              (λ f. absurd (n (other_told x l j e f)))))),
        ))
        (λ l. absurd (n (past_told x j l)))

    pub told_maintained : Told st t (maintained_reply st time t ask order)
    unfolding maintained_reply heartbeat_actions
    told_maintained =
        record {
          grafts = λ s h on.
              times_map st 1 s (id_is st size ok s h (λ z. omega (arith, on, z))) acts ∙ grafted s h;
          prunes = λ s h on.
              times_map st 2 s (id_is st size ok s h (λ z. omega (arith, on, z))) acts ∙ pruned_told s h;
          only = λ j id n.
              let w = someone st j id acts n in
              let c = told_connected j w.0 w.1 in
              (w.0, c.0, c.1, w.2);
        }

  pub told_heartbeat : Told st t (heartbeat_reply st time t ask order)
  unfolding heartbeat_reply
  told_heartbeat =
      cond_case (λ (r : Reply). Told st t r) (is_permutation slot_count order) _ (refused NotPermutation st)
      (λ right.
      cond_case (λ (r : Reply). Told st t r) (is_joined st t) (maintained_reply st time t ask order) (ignored st time)
      (λ j. told_maintained right)
      (λ j. told_ignored st t time))
      (λ wrong. told_refused st t NotPermutation)

-- ---- leave
times_append : (k id : ℕ) (x y : List Action) → times k id (x ++ y) ≡ times k id x + times k id y
unfolding times
times_append k id [] y = omega arith
times_append k id (a ∷ x) y = omega (arith, times_append k id x y)

module _ (st : State) (t : ℕ) where
  abbrev tell : ℕ → List Action
  tell i = cond (is_member st t i) (prune_of (peer_in st i) (unsubscribe_backoff st) ∷ []) []

  tell_times : (k id i : ℕ) → times k id (tell i) ≡ one (is_member st t i && (eqb 2 k && eqb (peer_in st i).id id))
  unfolding times
  tell_times k id i = by_test _ (is_member st t i) (λ m. rw m (omega arith)) (λ m. rw m)

  more_times :
      (k id n : ℕ) →
      times k id (leave_actions st t (suc n))
      ≡ times k id (leave_actions st t n) + one (is_member st t n && (eqb 2 k && eqb (peer_in st n).id id))
  unfolding leave_actions gather
  more_times k id n = times_append k id (gather n tell) (tell n) ∙ ap (λ (x : ℕ). times k id (gather n tell) + x) (tell_times k id n)

  no_graft : (id n : ℕ) → times 1 id (leave_actions st t n) ≡ 0
  unfolding leave_actions gather times
  no_graft id zero = refl
  no_graft id (suc n) =
      let z : one (is_member st t n && (eqb 2 1 && eqb (peer_in st n).id id)) ≡ 0 = none (is_member st t n) in
      omega (arith, more_times 1 id n, no_graft id n, z)

  module _ (s : ℕ) (one-slot : (x : ℕ) → (peer_in st x).id ≡ (peer_in st s).id → x ≡ s) where
    before_slot : (n : ℕ) → n ≤ s → times 2 (peer_in st s).id (leave_actions st t n) ≡ 0
    unfolding leave_actions gather times
    before_slot zero h = refl
    before_slot (suc n) h =
        let q : eqb (peer_in st n).id (peer_in st s).id ≡ false = ne_eqb _ _ (λ e. omega (arith, one-slot n e, h)) in
        let z : one (is_member st t n && (eqb 2 2 && eqb (peer_in st n).id (peer_in st s).id)) ≡ 0 = rw q (none (is_member st t n)) in
        omega (arith, more_times 2 (peer_in st s).id n, before_slot n (omega arith), z)

    after_slot : (n : ℕ) → s < n → times 2 (peer_in st s).id (leave_actions st t n) ≡ one (is_member st t s)
    after_slot zero h = absurd (not-suc-le-zero h)
    after_slot (suc n) h =
        by_test _ (eqb n s)
        (λ e.
        let q : n ≡ s = eqb-true n s e in
        let z : one (is_member st t n && (eqb 2 2 && eqb (peer_in st n).id (peer_in st s).id)) ≡ one (is_member st t s) =
        rw (q, eq-eqb (peer_in st s).id (peer_in st s).id refl) (all (is_member st t s)) in
        omega (arith, more_times 2 (peer_in st s).id n, before_slot n (omega arith), z))
        (λ e.
        let q : eqb (peer_in st n).id (peer_in st s).id ≡ false = ne_eqb _ _ (λ z. eqb-false n s e (one-slot n z)) in
        let z : one (is_member st t n && (eqb 2 2 && eqb (peer_in st n).id (peer_in st s).id)) ≡ 0 = rw q (none (is_member st t n)) in
        omega (arith, more_times 2 (peer_in st s).id n, after_slot n (let w = eqb-false n s e in omega (arith, w, h)), z))

  pub leave_someone :
      (k id n : ℕ) → times k id (leave_actions st t n) ≢ 0 → (x : ℕ) × (x < n) × (is_member st t x ≡ true) × ((peer_in st x).id ≡ id)
  unfolding leave_actions gather times
  leave_someone k id zero e = absurd (e refl)
  leave_someone k id (suc n) e =
      by_test _ (is_member st t n && (eqb 2 k && eqb (peer_in st n).id id))
      (λ b.
      let q = both (is_member st t n) (eqb 2 k && eqb (peer_in st n).id id) b in
      (n, omega arith, q.0, eqb-true _ _ (both (eqb 2 k) (eqb (peer_in st n).id id) q.1).1))
      (λ b.
      let z : one (is_member st t n && (eqb 2 k && eqb (peer_in st n).id id)) ≡ 0 = rw b in
      let w = leave_someone k id n (λ y. e (more_times k id n ∙ omega (arith, y, z))) in
      (w.0, omega (arith, w.1), w.2, w.3))

-- every member is out
module _ (st : State) (t end : ℕ) where
  leave_apart : (j v i : ℕ) (u : State) → place j v ≢ place i t → is_member (leave_slot st t end i u) v j ≡ is_member u v j
  unfolding leave_slot
  leave_apart j v i u n =
      cond_case (λ (w : State). is_member w v j ≡ is_member u v j) (is_member st t i) (pruned (punished st t i u) i t end) u
      (λ m. pruned_apart (punished st t i u) i t end j v n ∙ punished_apart st t i u j v n)
      (λ m. refl)

  pub leave_sized : (i : ℕ) (u : State) → Sized u → Sized (leave_slot st t end i u)
  unfolding leave_slot
  leave_sized i u z =
      cond_case (λ (w : State). Sized w) (is_member st t i) (pruned (punished st t i u) i t end) u
      (λ m. sized_pruned (punished st t i u) i t end (punished_sized st t i u z))
      (λ m. z)

  pub leave_out : t < 8 → Sized st → (s : ℕ) → s < slot_count → is_member (iter slot_count (leave_slot st t end) st) t s ≡ false
  unfolding leave_slot
  leave_out k z s h =
      let w = iter s (leave_slot st t end) st in
      let zw : Sized w = iter_keeps (λ (u : State). Sized u) (leave_slot st t end) s st z (λ i u l. leave_sized i u) in
      let others : (i : ℕ) (u : State) → i ≢ s → is_member (leave_slot st t end i u) t s ≡ is_member u t s =
      λ i u n. leave_apart s t i u (place_slot i t s t k k (λ e. n (sym e))) in
      let was : is_member w t s ≡ is_member st t s = iter_before (λ u. is_member u t s) (leave_slot st t end) s others s st (omega arith) in
      iter_once (λ u. is_member u t s) (leave_slot st t end) s others slot_count st h
      ∙ by_test (is_member (leave_slot st t end s w) t s ≡ false) (is_member st t s)
      (λ m. rw m (pruned_member (punished st t s w) s t end (punished_sized st t s w zw) h k))
      (λ m. rw m (was ∙ m))

module _ (st : State) (size : Sized st) (ok : valid st ≡ true) (time t : ℕ) (k : t < 8) where
  gone : (u : State) (b : ℕ) (s : ℕ) → is_member (set_clock (set_joined u t b) time) t s ≡ is_member u t s
  unfolding set_clock set_joined is_member topic_in
  gone u b s = refl

  pub told_leave : Told st t (leave_reply st time t)
  unfolding leave_reply
  told_leave =
      let end = end_after time (unsubscribe_backoff st) in
      let u = iter slot_count (leave_slot st t end) st in
      cond_case (λ (r : Reply). Told st t r) (is_joined st t) _ (ignored st time)
      (λ j.
      record {
        grafts = λ s h on.
            no_graft st t (peer_in st s).id slot_count
            ∙ sym
            (ap (λ (b : Bool). one (not (is_member st t s) && b)) (gone u 0 s ∙ leave_out st t end k size s h)
            ∙ none (not (is_member st t s)));
        prunes = λ s h on.
            after_slot st t s (id_is st size ok s h (λ z. omega (arith, on, z))) slot_count h
            ∙ sym (ap (λ (b : Bool). one (is_member st t s && not b)) (gone u 0 s ∙ leave_out st t end k size s h) ∙ all (is_member st t s));
        only = λ i id n.
            let w = leave_someone st t i id slot_count n in
            (w.0, w.1, member_connected st ok t w.0 k w.1 w.2, w.3);
      })
      (λ j. told_ignored st t time)

pub told_is_done : ToldIsDone
unfolding effect
told_is_done st time t room size = (
  by_gate (λ (r : Reply). Told st t r) st (leave time t) room
      (λ a e. told_refused st t a)
      (λ p. told_leave st size p.router time t (topic_in_lem t (arguments (leave time t) p.ranges))),
  λ ask order.
      by_gate (λ (r : Reply). Told st t r) st (heartbeat time t ask order) room
      (λ a e. told_refused st t a)
      (λ p.
      told_heartbeat st size p.router time t ask order
      (topic_in_lem t (both (topic_ok t) (leb ask 1) (arguments (heartbeat time t ask order) p.ranges)).0)),
)
