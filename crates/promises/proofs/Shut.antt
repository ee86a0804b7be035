-- Who was told PRUNE, or told it us, stays out: the end of each such backoff is in the peer's record, or over. Call by call.
-- Assumes nothing.
use Rattle.std.proofs.Common.{Option, Some, None}
use Rattle.rules.proofs.ConnectLaws.{by_connect}
use lib.ListN.{length, get_or}
use Prim.Native.Nat.{ℕ, ◌≤◌, ◌<◌, max, min}
use native.Mathlib.Omega.{arith}
use mathlib.Core.Path.{◌≡◌, refl, sym, ap, ◌∙◌}
use mathlib.Core.Logic.{◌≢◌, ◌⊎◌, inl, inr, ⊎_elim}
use mathlib.Core.Bool.{Bool, true, false, cond, not, ◌&&◌, and-false, false≢true}
use mathlib.Core.List.{List, [], map}
use lib.Dec.{eqb, ltb}
use borrow.Author.Tests.{eqb-true, ltb-true}
use Rattle.index.specs.Index.{iter, one}
use Rattle.index.proofs.Index.{both}
use Rattle.index.proofs.Flags.{by_test, by_order, cond_case}
use Rattle.varint.specs.Codes.{code_of}
use Rattle.params.specs.declared.Params.{Params}
use Rattle.records.specs.declared.Peer.{Peer}
use Rattle.records.specs.declared.Groups.{Groups}
use Rattle.records.specs.Records.{State, slot_count, place, peer_in, topic_in, set_clock, set_joined, set_peer}
use Rattle.layout.specs.View.{Sized}
use Rattle.layout.proofs.StateLaws.{peer_same, sized_topic}
use Rattle.validity.specs.Valid.{valid}
use Rattle.lookup.specs.Find.{find_connected}
use Rattle.lookup.proofs.FindLaws.{retained_at, empty_at}
use Rattle.sets.specs.Sets.{at, is_permutation}
use Rattle.effects.specs.Effects.{unsubscribe_backoff, prune_backoff, with_end, with_p7, connected_as, on_topic, into_mesh, is_joined}
use Rattle.effects.specs.Effects.{is_member, pruned, end_after, reclaimable, reclaimed}
use Rattle.effects.proofs.EffectLaws.{reclaimed_stays, reclaimable_over, sized_pruned, end_same}
use Rattle.rules.specs.declared.Answer.TheVariants.{NotPermutation}
use Rattle.rules.specs.Reply.{Reply, number_of, refused, ignored, done}
use Rattle.rules.specs.Calls.{Call, connect, disconnect, join, leave, subscribe, unsubscribe, graft, prune, deliver, rate, heartbeat, decay}
use Rattle.rules.specs.Calls.{groups_of, score, time_of}
use Rattle.rules.proofs.GraftLaws.{by_graft}
use Rattle.rules.specs.Step.{is_graylisted, is_heard, on_found, of_peer, connect_at, connect_reply, join_reply, leave_slot, raised_p7}
use Rattle.rules.specs.Step.{leave_actions, leave_reply, subscribe_reply, unsubscribe_reply, graft_refused}
use Rattle.rules.specs.Step.{graft_reply, seconds_of, prune_reply, deliver_reply, meshes_in, punished, settle_slot, maintained_reply}
use Rattle.rules.specs.Step.{heartbeat_reply, decay_reply, effect}
use Rattle.rules.proofs.PunishedLaws.{punished_sized}
use Rattle.call_lists.proofs.Standing.{degree_is, member_connected}
use Rattle.promises.specs.Ends.{end_in}
use Rattle.promises.specs.Told.{times}
use Rattle.promises.specs.KeptOut.{prune_seconds, leave_seconds, told, shut_by}
use Rattle.promises.proofs.Later.{LaterAt, Later, later_self, later_then, later_clock, later_joined, later_peer, later_iter}
use Rattle.promises.proofs.Later.{later_pruned, later_settled, later_left, later_moved, later_still, later_disconnect, later_leave}
use Rattle.promises.proofs.Later.{later_rate, later_decay, later_on, later_refused, later_raised, end_pruned, end_walked}
use Rattle.promises.proofs.Told.{leave_someone, leave_sized, left_member, told_maintained}

-- ---- an end that is kept: it is over, or stands in the record of the peer with the id
abbrev pub Held : ℕ → State → ℕ → ℕ → Type 0
Held n st id t = (n ≤ st.clock) ⊎ ((s : ℕ) × (s < slot_count) × ((peer_in st s).status ≢ 0) × ((peer_in st s).id ≡ id) × (n ≤ end_in st s t))

pub held_zero : (st : State) (id t : ℕ) → Held 0 st id t
held_zero st id t = inl (omega arith)

pub held_max : (a b : ℕ) (st : State) (id t : ℕ) → Held a st id t → Held b st id t → Held (max a b) st id t
held_max a b st id t h k =
    by_order _ a b
    (λ l. let e : max a b ≡ b = omega arith in rw e k)
    (λ l. let e : max a b ≡ a = omega arith in rw e h)

held_cond : (b : Bool) (n : ℕ) (st : State) (id t : ℕ) → (b ≡ true → Held n st id t) → Held (cond b n 0) st id t
held_cond b n st id t h = cond_case (λ (k : ℕ). Held k st id t) b n 0 h (λ e. held_zero st id t)

-- ---- what a call leaves of it
pub record Hold (st u : State) : Type 0 where
  pub clock : st.clock ≤ u.clock
  pub peer :
      (s : ℕ) → s < slot_count → (peer_in st s).status ≢ 0 → LaterAt (peer_in st s) (peer_in u s) ⊎ ((t : ℕ) → t < 8 → end_in st s t ≤ u.clock)

pub held_hold : (st u : State) → Hold st u → (n id t : ℕ) → t < 8 → Held n st id t → Held n u id t
held_hold st u f n id t k h =
    ⊎_elim
    (λ a. inl (omega (arith, a, f.clock)))
    (λ w.
    ⊎_elim
    (λ l. inr (w.0, w.1, l.used w.2, l.id w.2 ∙ w.3, omega (arith, w.4, l.ends t)))
    (λ e. inl (omega (arith, w.4, e t k)))
    (f.peer w.0 w.1 w.2))
    h

hold_self : (st : State) → Hold st st
hold_self st = record { clock = omega arith; peer = λ s h n. inl (later_self st s) }

module _ (st : State) (time : ℕ) (c : st.clock ≤ time) where
  hold_moved : (u : State) → Later st (set_clock u time) → Hold st (set_clock u time)
  unfolding set_clock
  hold_moved u f = record { clock = c; peer = λ s h n. inl (f s) }

  abbrev Kept : Reply → Type 0
  Kept r = Hold st r.state

  still : Kept (ignored st time)
  still = hold_moved st (later_still st time)

  either : (b : Bool) (o q : Reply) → Kept o → Kept q → Kept (cond b o q)
  either b o q h k = cond_case Kept b o q (λ e. h) (λ e. k)

  found : (r : Option ℕ) (f : ℕ → Reply) (q : Reply) → ((s : ℕ) → r ≡ Some s → Kept (f s)) → Kept q → Kept (on_found r f q)
  found (Some s) f q h k = h s refl
  found None f q h k = k

  peered : (id : ℕ) (f : ℕ → Reply) → ((s : ℕ) → Kept (f s)) → Kept (of_peer st id f)
  peered id f h = found (find_connected st id) f _ (λ s e. h s) (hold_self st)

  -- connect: whose record is emptied has no backoff that runs
  module _ (size : Sized st) (id : ℕ) (groups : Groups) (flags version : ℕ) where
    abbrev kept : State
    kept = reclaimed st time

    taken : (s : ℕ) → ((peer_in kept s).status ≢ 0 → id ≡ (peer_in kept s).id) → Kept (connect_at kept time id groups flags version s)
    unfolding connect_at connected_as set_clock
    taken s same =
        let p = connected_as (peer_in kept s) id groups flags version in
        let u = set_peer kept s p in
        let l : Later kept (set_clock u time) =
        later_moved kept time u
        (later_peer kept s p (record { used = λ n z. omega (arith, z); id = same; ends = λ t. omega arith })) in
        record {
          clock = c;
          peer = λ i h n.
              by_test _ (reclaimable (peer_in st i) time)
              (λ e. inr (reclaimable_over (peer_in st i) time e))
              (λ e. inl (rw (reclaimed_stays st time size i h e) at (l i)));
        }

  hold_connect : Sized st → (id : ℕ) (groups : Groups) (flags : ℕ) (name : List ℕ) → Kept (connect_reply st time id groups flags name)
  hold_connect size id groups flags name =
      let u = reclaimed st time in
      by_connect Kept st time id groups flags name
      (λ n. hold_self st)
      (λ v s n c. hold_self st)
      (λ v s n c r. taken size id groups flags v s (λ d. sym (retained_at u id s r).2))
      (λ v s n c r e. taken size id groups flags v s (λ d. absurd (d (empty_at u s e).1)))
      (λ v n c r e. hold_self st)

  back : (t s : ℕ) (p : Peer) → Later st (graft_refused st time t s p).state → Kept (graft_refused st time t s p)
  unfolding graft_refused
  back t s p l = hold_moved _ l

  hold_graft : (t s : ℕ) → Kept (graft_reply st time t s)
  hold_graft t s =
      by_graft Kept st time t s
      (λ e. still)
      (λ e m. still)
      (λ e. back t s _ (later_refused st time t s))
      (λ e. back t s _ (later_raised st time t s))
      (λ e. hold_moved (on_topic st s t (λ r. into_mesh r time)) (later_on st time (place s t) (into_mesh (topic_in st (place s t)) time)))

  hold_heartbeat : (t ask : ℕ) (order : List ℕ) → Kept (heartbeat_reply st time t ask order)
  unfolding heartbeat_reply maintained_reply
  hold_heartbeat t ask order =
      let mesh = (meshes_in st time t ask order).fifth in
      let w = iter slot_count (settle_slot st time t mesh) st in
      either (is_permutation slot_count order) _ (refused NotPermutation st)
      (either (is_joined st t) (maintained_reply st time t ask order) (ignored st time)
      (hold_moved w (later_moved st time w (later_iter (settle_slot st time t mesh) slot_count st (later_settled st time t mesh))))
      still)
      (hold_self st)

pub hold_effect : (st : State) (c : Call) → Sized st → st.clock ≤ time_of c → Hold st (effect st c).state
unfolding effect join_reply leave_reply subscribe_reply unsubscribe_reply prune_reply deliver_reply decay_reply
hold_effect st (connect time id groups flags name) z l = hold_connect st time l z id (groups_of groups) flags name
hold_effect st (disconnect time id) z l = peered st time l id _ (λ s. hold_moved st time l _ (later_disconnect st time s))
hold_effect st (join time t) z l =
    either st time l (is_joined st t) _ _ (still st time l)
    (hold_moved st time l (set_joined st t 1) (later_moved st time (set_joined st t 1) (later_joined st t 1)))
hold_effect st (leave time t) z l =
    let end = end_after time (unsubscribe_backoff st) in
    either st time l (is_joined st t)
    (done (set_joined (iter slot_count (leave_slot st t end) st) t 0) time (leave_actions st t slot_count)) _
    (hold_moved st time l (set_joined (iter slot_count (leave_slot st t end) st) t 0) (later_leave st time t end))
    (still st time l)
hold_effect st (subscribe time id t) z l =
    peered st time l id _ (λ s.
    either st time l (is_graylisted st s) _ _ (still st time l) (hold_moved st time l _ (later_on st time (place s t) _)))
hold_effect st (unsubscribe time id t) z l =
    peered st time l id _ (λ s.
    either st time l (is_graylisted st s) _ _ (still st time l) (hold_moved st time l _ (later_on st time (place s t) _)))
hold_effect st (graft time id t) z l = peered st time l id _ (hold_graft st time l t)
hold_effect st (prune time id t seconds) z l =
    peered st time l id _ (λ s.
    let end = end_after time (seconds_of st seconds) in
    either st time l (is_heard st t s) _ _
    (hold_moved st time l (pruned st s t end) (later_moved st time (pruned st s t end) (later_pruned st s t end)))
    (still st time l))
hold_effect st (deliver time id t kind) z l =
    peered st time l id _ (λ s.
    either st time l (is_heard st t s) _ _ (hold_moved st time l _ (later_on st time (place s t) _)) (still st time l))
hold_effect st (rate time id p5) z l = peered st time l id _ (λ s. hold_moved st time l _ (later_rate st time p5 s))
hold_effect st (heartbeat time t ask order) z l = hold_heartbeat st time l t ask order
hold_effect st (decay time) z l = hold_moved st time l _ (later_decay st time)
hold_effect st (score time id) z l = peered st time l id _ (λ s. still st time l)

-- ---- what a call shuts
abbrev pub Shuts : Params → Call → Reply → Type 0
Shuts params c r = (id t : ℕ) → t < 8 → Held (shut_by params c r id t) r.state id t

no_test : (b : Bool) (n : ℕ) → n ≡ 0 → b && ltb 0 n ≡ false
no_test b n e = rw e (and-false b)

-- no PRUNE, no end
told_none : (time seconds : ℕ) (r : Reply) (u id t : ℕ) → times 2 id r.actions ≡ 0 → Held (told time seconds r u id t) r.state id t
told_none time seconds r u id t e =
    held_cond (eqb u t && ltb 0 (times 2 id r.actions)) (end_after time seconds) r.state id t (λ b.
    absurd (false≢true (sym (no_test (eqb u t) (times 2 id r.actions) e) ∙ b)))

-- a PRUNE to a peer whose record then has the end
told_some :
    (time seconds : ℕ) (r : Reply) (u id t : ℕ) → (times 2 id r.actions ≢ 0 → u ≡ t → Held (end_after time seconds) r.state id t) →
    Held (told time seconds r u id t) r.state id t
told_some time seconds r u id t h =
    held_cond (eqb u t && ltb 0 (times 2 id r.actions)) (end_after time seconds) r.state id t (λ b.
    let q = both (eqb u t) (ltb 0 (times 2 id r.actions)) b in
    h (λ e. omega (arith, e, ltb-true 0 (times 2 id r.actions) q.1)) (eqb-true u t q.0))

pub quiet : (time seconds : ℕ) (r : Reply) (u id t : ℕ) → r.actions ≡ [] → Held (told time seconds r u id t) r.state id t
unfolding times
quiet time seconds r u id t e = told_none time seconds r u id t (rw e)

module _ (params : Params) (st : State) (size : Sized st) (codes : st.codes ≡ map code_of params.numbers) where
  -- ---- GRAFT that is answered by a PRUNE
  module _ (time u s : ℕ) (h : s < slot_count) (k : u < 8) where
    abbrev Told2 : Reply → Type 0
    Told2 r = (id t : ℕ) → t < 8 → Held (told time (prune_seconds params) r u id t) r.state id t

    -- p is the record that gets the end
    back_shuts :
        (p : Peer) → (peer_in st s).status ≢ 0 → p.id ≡ (peer_in st s).id → length p.backoff ≡ 8 →
        Later st (graft_refused st time u s p).state → Told2 (graft_refused st time u s p)
    unfolding graft_refused times
    back_shuts p on same_id ends later id t b =
        let end = end_after time (prune_backoff st) in
        let w = set_peer st s (with_end p u end) in
        let same : prune_backoff st ≡ prune_seconds params = degree_is st params codes 5 in
        told_some time (prune_seconds params) (graft_refused st time u s p) u id t (λ n q.
        let l = later s in
        let a = ap (λ (p : Peer). get_or p.backoff u 0) (peer_same st s (with_end p u end) (omega (arith, size.peers, h))) in
        let c = end_same p u end (omega (arith, ends, k)) in
        let d = (later_clock w time s).ends u in
        inr (
          s,
          h,
          l.used on,
          l.id on
              ∙ sym same_id
              ∙ by_test _ (eqb p.id id) (λ y. eqb-true _ _ y) (λ y.
              let o : one (eqb 2 2 && eqb p.id id) ≡ 0 = rw y in
              absurd (n (omega (arith, o)))),
          rw (← q, ← same) (omega (arith, a, c, d)),
        ))

    pub graft_shuts : (peer_in st s).status ≢ 0 → Told2 (graft_reply st time u s)
    unfolding raised_p7 with_p7
    graft_shuts on =
        by_graft Told2 st time u s
        (λ e id t b. quiet time _ (ignored st time) u id t refl)
        (λ e m id t b. quiet time _ (done st time []) u id t refl)
        (λ e. back_shuts (peer_in st s) on refl (size.ends s) (later_refused st time u s))
        (λ e. back_shuts (raised_p7 (peer_in st s)) on refl (size.ends s) (later_raised st time u s))
        (λ e id t b. quiet time _ (done (on_topic st s u (λ r. into_mesh r time)) time []) u id t refl)

  -- ---- leave
  pub leave_shuts : (time u : ℕ) → valid st ≡ true → u < 8 → (id t : ℕ) → t < 8 →
      Held (told time (leave_seconds params) (leave_reply st time u) u id t) (leave_reply st time u).state id t
  unfolding leave_reply leave_slot
  leave_shuts time u ok k id t b =
      let end = end_after time (unsubscribe_backoff st) in
      let w = iter slot_count (leave_slot st u end) st in
      let r = done (set_joined w u 0) time (leave_actions st u slot_count) in
      let same : unsubscribe_backoff st ≡ leave_seconds params = degree_is st params codes 6 in
      cond_case (λ (r : Reply). Held (told time (leave_seconds params) r u id t) r.state id t) (is_joined st u) r (ignored st time)
      (λ j.
      told_some time (leave_seconds params) r u id t (λ n q.
      let x = leave_someone st u 2 id slot_count n in
      let s = x.0 in
      let on = member_connected st ok u s k x.1 x.2 in
      let l = later_leave st time u end s in
      let c : end ≤ end_in w s u =
      end_walked (leave_slot st u end) s u end (leave_sized st u end) (later_left st u end)
      (λ v z.
      rw x.2 (end_pruned (punished st u s v) s u end (punished_sized st u s v z) x.1 k))
      slot_count st size x.1 in
      let d = (later_joined w u 0 s).ends u in
      let e = (later_clock (set_joined w u 0) time s).ends u in
      inr (
        s,
        x.1,
        l.used (λ z. omega (arith, z, on)),
        l.id (λ z. omega (arith, z, on)) ∙ x.3,
        rw (← q, ← same) (omega (arith, c, d, e)),
      )))
      (λ j. quiet time (leave_seconds params) (ignored st time) u id t refl)

  -- ---- heartbeat
  taken_out : (m n : Bool) → one (m && not n) ≢ 0 → (m ≡ true) × (n ≡ false)
  taken_out true true e = absurd (e refl)
  taken_out true false e = (refl, refl)
  taken_out false n e = absurd (e refl)

  module _ (time u ask : ℕ) (order : List ℕ) (ok : valid st ≡ true) (k : u < 8) (right : is_permutation slot_count order ≡ true) where
    abbrev mesh : List Bool
    mesh = (meshes_in st time u ask order).fifth

    abbrev end : ℕ
    end = end_after time (prune_backoff st)

    abbrev walked : State
    walked = iter slot_count (settle_slot st time u mesh) st

    turn_sized : (i : ℕ) (v : State) → Sized v → Sized (settle_slot st time u mesh i v)
    unfolding settle_slot
    turn_sized i v z =
        cond_case (λ (w : State). Sized w) (is_member st u i) _ _
        (λ e. cond_case (λ (w : State). Sized w) (at mesh i) v _ (λ f. z)
        (λ f. sized_pruned (punished st u i v) i u end (punished_sized st u i v z)))
        (λ e. cond_case (λ (w : State). Sized w) (at mesh i) _ v (λ f. sized_topic v z (place i u) _) (λ f. z))

    end_settled : (s : ℕ) → s < slot_count → is_member st u s ≡ true → at mesh s ≡ false → end ≤ end_in walked s u
    unfolding settle_slot
    end_settled s h m a =
        end_walked (settle_slot st time u mesh) s u end turn_sized (later_settled st time u mesh)
        (λ v z. rw (m, a) (end_pruned (punished st u s v) s u end (punished_sized st u s v z) h k))
        slot_count st size h

    later_left_state : Later walked (maintained_reply st time u ask order).state
    unfolding maintained_reply
    later_left_state = later_clock walked time

    later_maintained : Later st (maintained_reply st time u ask order).state
    later_maintained =
        later_then st walked (maintained_reply st time u ask order).state
        (later_iter (settle_slot st time u mesh) slot_count st (later_settled st time u mesh))
        later_left_state

    maintained_shuts : (id t : ℕ) → t < 8 →
        Held (told time (prune_seconds params) (maintained_reply st time u ask order) u id t)
        (maintained_reply st time u ask order).state id t
    maintained_shuts id t b =
        let r = maintained_reply st time u ask order in
        let same : prune_backoff st ≡ prune_seconds params = degree_is st params codes 5 in
        let w = told_maintained st size ok time u ask order k right in
        told_some time (prune_seconds params) r u id t (λ n q.
        let x = w.only 2 id n in
        let s = x.0 in
        let l = later_maintained s in
        let out = taken_out (is_member st u s) (is_member r.state u s)
        (λ z. n (ap (λ (i : ℕ). times 2 i r.actions) (sym x.3) ∙ w.prunes s x.1 x.2 ∙ z)) in
        let a : at mesh s ≡ false = sym (left_member st size ok time u ask order k right s x.1) ∙ out.1 in
        let c = end_settled s x.1 out.0 a in
        let d = (later_left_state s).ends u in
        inr (
          s,
          x.1,
          l.used (λ z. omega (arith, z, x.2)),
          l.id (λ z. omega (arith, z, x.2)) ∙ x.3,
          rw (← q, ← same) (omega (arith, c, d)),
        ))

  pub heartbeat_shuts : (time u ask : ℕ) (order : List ℕ) → valid st ≡ true → u < 8 → (id t : ℕ) → t < 8 →
      Held (told time (prune_seconds params) (heartbeat_reply st time u ask order) u id t) (heartbeat_reply st time u ask order).state id t
  unfolding heartbeat_reply
  heartbeat_shuts time u ask order ok k id t b =
      cond_case (λ (r : Reply). Held (told time (prune_seconds params) r u id t) r.state id t) (is_permutation slot_count order) _
      (refused NotPermutation st)
      (λ right.
      cond_case (λ (r : Reply). Held (told time (prune_seconds params) r u id t) r.state id t) (is_joined st u)
      (maintained_reply st time u ask order) (ignored st time)
      (λ j. maintained_shuts time u ask order ok k right id t b)
      (λ j. quiet time (prune_seconds params) (ignored st time) u id t refl))
      (λ wrong. quiet time (prune_seconds params) (refused NotPermutation st) u id t refl)

  -- ---- PRUNE in
  pub prune_shuts : (time p u seconds s : ℕ) → s < slot_count → u < 8 → (peer_in st s).status ≢ 0 → (peer_in st s).id ≡ p → (id t : ℕ) → t < 8 →
      Held (shut_by params (prune time p u seconds) (prune_reply st time u seconds s) id t) (prune_reply st time u seconds s).state id t
  unfolding prune_reply shut_by seconds_of
  prune_shuts time p u seconds s h k on e id t b =
      let end = end_after time (seconds_of st seconds) in
      let w = pruned st s u end in
      let same : prune_backoff st ≡ prune_seconds params = degree_is st params codes 5 in
      cond_case
      (λ (r : Reply).
      Held
      (cond (eqb u t && (eqb p id && eqb (number_of r.answer) 0))
      (end_after time (cond (eqb seconds 0) (prune_seconds params) (min seconds 3600)))
      0)
      r.state id t)
      (is_heard st u s)
      (done w time [])
      (ignored st time)
      (λ j.
      held_cond (eqb u t && (eqb p id && true)) (end_after time (cond (eqb seconds 0) (prune_seconds params) (min seconds 3600)))
      (set_clock w time) id t (λ c.
      let q = both (eqb u t) (eqb p id && true) c in
      let l = later_moved st time w (later_pruned st s u end) s in
      let a = end_pruned st s u end size h k in
      let d = (later_clock w time s).ends u in
      inr (
        s,
        h,
        l.used on,
        l.id on ∙ e ∙ eqb-true p id (both (eqb p id) true q.1).0,
        rw (← (eqb-true u t q.0), ← same) (omega (arith, a, d)),
      )))
      (λ j.
      held_cond (eqb u t && (eqb p id && false)) (end_after time (cond (eqb seconds 0) (prune_seconds params) (min seconds 3600)))
      (set_clock st time) id t (λ c. absurd (false≢true (both (eqb p id) false (both (eqb u t) (eqb p id && false) c).1).1)))
