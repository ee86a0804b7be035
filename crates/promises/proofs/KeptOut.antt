-- Kept out, over every list of calls: what a call shuts is held in the state it leaves, every later call keeps it held, and of a member it
-- is over, since its own backoff ended when it came in.
-- Assumes nothing.
use Rattle.std.proofs.Common.{Option, Some, None}
use Prim.Native.Nat.{ℕ, ◌+◌, ◌≤◌, ◌<◌}
use native.Mathlib.Omega.{arith}
use mathlib.Core.Path.{◌≡◌, refl, sym, ap, ◌∙◌}
use mathlib.Core.Logic.{◌≢◌, ◌⊎◌, inr, ⊎_elim}
use mathlib.Core.Bool.{Bool, true, false, not, ◌&&◌, false≢true}
use mathlib.Core.List.{List, [], ◌∷◌, map}
use lib.Dec.{eqb, leb}
use borrow.Author.Tests.{eqb-true}
use Rattle.index.specs.Index.{one}
use Rattle.index.proofs.Index.{both}
use Rattle.index.proofs.Flags.{cond_case}
use Rattle.varint.specs.Codes.{code_of}
use Rattle.params.specs.declared.Params.{Params}
use Rattle.records.specs.Records.{State, slot_count, peer_in}
use Rattle.layout.specs.View.{Sized}
use Rattle.validity.specs.Valid.{valid}
use Rattle.validity.proofs.ValidLaws.{valid_facts}
use Rattle.lookup.specs.Find.{find_connected, find_retained}
use Rattle.lookup.proofs.FindLaws.{connected_at, retained_at}
use Rattle.sets.specs.Sets.{at, is_permutation}
use Rattle.effects.specs.Effects.{is_joined, is_member}
use Rattle.rules.specs.declared.Answer.{Answer}
use Rattle.rules.specs.declared.Answer.TheVariants.{NotConnected, NotPermutation}
use Rattle.rules.specs.Reply.{Reply, number_of, refused, ignored}
use Rattle.rules.specs.Calls.{Call, connect, disconnect, join, leave, subscribe, unsubscribe, graft, prune, deliver, rate, heartbeat, decay}
use Rattle.rules.specs.Calls.{score, topic_ok, arguments_ok}
use Rattle.rules.specs.Step.{on_found, of_peer, maintained_reply, heartbeat_reply, meshes_in, effect, step}
use Rattle.rules.proofs.CaseLaws.{topic_in_lem, topic_of_both, arguments, by_gate}
use Rattle.rules.proofs.Words.{candidate_past}
use Rattle.call_lists.specs.Lists.{Start, Made, after}
use Rattle.call_lists.specs.Demand3.{Accepted}
use Rattle.call_lists.proofs.Standing.{member_connected, off_start}
use Rattle.call_lists.proofs.Demand3.{standing}
use Rattle.call_lists.specs.Played.{made}
use Rattle.call_lists.proofs.Played.{agrees}
use Rattle.promises.specs.Ends.{end_in}
use Rattle.promises.specs.Told.{times}
use Rattle.promises.specs.KeptOut.{shut_by, shut_at_start, shut_until, KeptOutOf, KeptOut, ProgramKeptOut}
use Rattle.promises.proofs.Members.{Out, out_step, new_candidate}
use Rattle.promises.proofs.Told.{id_is, left_member, told_maintained}
use Rattle.promises.proofs.Shut.{Held, held_zero, held_max, held_hold, hold_effect, Shuts, quiet, graft_shuts, leave_shuts}
use Rattle.promises.proofs.Shut.{heartbeat_shuts, prune_shuts}

-- ---- one call
-- a refusal shuts nothing
refused_shuts : (params : Params) (st : State) (c : Call) (a : Answer) → eqb (number_of a) 0 ≡ false → Shuts params c (refused a st)
unfolding shut_by
refused_shuts params st (connect time p groups flags name) a e id t k = held_zero st id t
refused_shuts params st (disconnect time p) a e id t k = held_zero st id t
refused_shuts params st (join time u) a e id t k = held_zero st id t
refused_shuts params st (leave time u) a e id t k = quiet time _ (refused a st) u id t refl
refused_shuts params st (subscribe time p u) a e id t k = held_zero st id t
refused_shuts params st (unsubscribe time p u) a e id t k = held_zero st id t
refused_shuts params st (graft time p u) a e id t k = quiet time _ (refused a st) u id t refl
refused_shuts params st (prune time p u seconds) a e id t k =
    cond_case (λ (n : ℕ). Held n st id t) (eqb u t && (eqb p id && eqb (number_of a) 0)) _ 0
    (λ b.
    absurd (false≢true (sym e ∙ (both (eqb p id) (eqb (number_of a) 0) (both (eqb u t) (eqb p id && eqb (number_of a) 0) b).1).1)))
    (λ b. held_zero st id t)
refused_shuts params st (deliver time p u kind) a e id t k = held_zero st id t
refused_shuts params st (rate time p p5) a e id t k = held_zero st id t
refused_shuts params st (heartbeat time u ask order) a e id t k = quiet time _ (refused a st) u id t refl
refused_shuts params st (decay time) a e id t k = held_zero st id t
refused_shuts params st (score time p) a e id t k = held_zero st id t

-- 3, or the slot that holds the id
pub by_id :
    (st : State) (P : Reply → Type 0) (id : ℕ) (f : ℕ → Reply) →
    P (refused NotConnected st) →
    ((s : ℕ) → s < slot_count → (peer_in st s).status ≡ 1 → (peer_in st s).id ≡ id → P (f s)) →
    P (of_peer st id f)
by_id st P id f none some = go (find_connected st id) refl
  where
    go : (r : Option ℕ) → find_connected st id ≡ r → P (on_found r f (refused NotConnected st))
    go (Some s) e = let q = connected_at st id s e in some s q.0 q.1 q.2
    go None e = none

module _ (params : Params) (st : State) (size : Sized st) (ok : valid st ≡ true) (codes : st.codes ≡ map code_of params.numbers) where
  effect_shuts : (c : Call) → arguments_ok c ≡ true → Shuts params c (effect st c)
  unfolding effect shut_by
  effect_shuts (connect time p groups flags name) a = λ id t k. held_zero _ id t
  effect_shuts (disconnect time p) a = λ id t k. held_zero _ id t
  effect_shuts (join time u) a = λ id t k. held_zero _ id t
  effect_shuts (leave time u) a = leave_shuts params st size codes time u ok (topic_in_lem u a)
  effect_shuts (subscribe time p u) a = λ id t k. held_zero _ id t
  effect_shuts (unsubscribe time p u) a = λ id t k. held_zero _ id t
  effect_shuts (graft time p u) a =
      by_id st (Shuts params (graft time p u)) p _ (refused_shuts params st (graft time p u) NotConnected refl) (λ s h on e.
      graft_shuts params st size codes time u s h (topic_of_both p u a) (λ z. omega (arith, z, on)))
  effect_shuts (prune time p u seconds) a =
      by_id st (Shuts params (prune time p u seconds)) p _ (refused_shuts params st (prune time p u seconds) NotConnected refl) (λ s h on e.
      prune_shuts params st size codes time p u seconds s h (topic_of_both p u a) (λ z. omega (arith, z, on)) e)
  effect_shuts (deliver time p u kind) a = λ id t k. held_zero _ id t
  effect_shuts (rate time p p5) a = λ id t k. held_zero _ id t
  effect_shuts (heartbeat time u ask order) a =
      heartbeat_shuts params st size codes time u ask order ok (topic_in_lem u (both (topic_ok u) (leb ask 1) a).0)
  effect_shuts (decay time) a = λ id t k. held_zero _ id t
  effect_shuts (score time p) a = λ id t k. held_zero _ id t

  shut_step : (c : Call) (room : ℕ) → Shuts params c (step st c room)
  shut_step c room = by_gate (Shuts params c) st c room (refused_shuts params st c) (λ p. effect_shuts c (arguments c p.ranges))

  hold_step : (c : Call) (room n id t : ℕ) → t < 8 → Held n st id t → Held n (step st c room).state id t
  hold_step c room n id t k h =
      by_gate (λ (r : Reply). Held n r.state id t) st c room (λ a e. h) (λ p.
      held_hold st (effect st c).state (hold_effect st c size p.clock) n id t k h)

  -- ---- GRAFT of a heartbeat
  came : (m n : Bool) → one (not m && n) ≢ 0 → (m ≡ false) × (n ≡ true)
  came true n e = absurd (e refl)
  came false true e = (refl, refl)
  came false false e = absurd (e refl)

  abbrev Past : (time t s : ℕ) → Type 0
  Past time t s = (end_in st s t ≡ 0) ⊎ (end_in st s t + 1000 ≤ time)

  grafts_free :
      (time t ask room : ℕ) (order : List ℕ) (s : ℕ) → s < slot_count → (peer_in st s).status ≡ 1 →
      times 1 (peer_in st s).id (step st (heartbeat time t ask order) room).actions ≢ 0 → Past time t s
  unfolding effect heartbeat_reply times
  grafts_free time t ask room order s h on =
      by_gate (λ (r : Reply). times 1 (peer_in st s).id r.actions ≢ 0 → Past time t s) st (heartbeat time t ask order) room
      (λ a e n. absurd (n refl))
      (λ p.
      let k = topic_in_lem t (both (topic_ok t) (leb ask 1) (arguments (heartbeat time t ask order) p.ranges)).0 in
      cond_case (λ (r : Reply). times 1 (peer_in st s).id r.actions ≢ 0 → Past time t s) (is_permutation slot_count order) _
      (refused NotPermutation st)
      (λ right.
      cond_case (λ (r : Reply). times 1 (peer_in st s).id r.actions ≢ 0 → Past time t s) (is_joined st t)
      (maintained_reply st time t ask order)
      (ignored st time)
      (λ j n.
      let w = told_maintained st size ok time t ask order k right in
      let r = maintained_reply st time t ask order in
      let c = came (is_member st t s) (is_member r.state t s) (λ z. n (w.grafts s h on ∙ z)) in
      let a : at (meshes_in st time t ask order).fifth s ≡ true = sym (left_member st size ok time t ask order k right s h) ∙ c.1 in
      candidate_past st time t s (new_candidate st time t ask order ok right s a c.0))
      (λ j n. absurd (n refl)))
      (λ wrong n. absurd (n refl)))

-- what a retained record holds at the start
held_start : (st : State) (id t : ℕ) (f : Option ℕ) → find_retained st id ≡ f → Held (shut_at_start st t f) st id t
held_start st id t (Some s) e =
    let q = retained_at st id s e in
    inr (s, q.0, (λ z. omega (arith, z, q.1)), q.2, omega arith)
held_start st id t None e = held_zero st id t

-- ---- every list of calls
module _ (start : Start) (fine : Accepted start) where
  outs : (calls : List Made) → Out (after start calls)
  unfolding after
  outs [] = λ s t h k m.
      let v = (standing start fine []).router in
      absurd (off_start start fine s h (((valid_facts start.state v).topic s t h k).inside m).0)
  outs (c ∷ before) = out_step (after start before) c.call c.room (outs before)

  held : (calls : List Made) (id t : ℕ) → t < 8 → Held (shut_until start calls id t) (after start calls) id t
  unfolding after shut_until
  held [] id t k = held_start start.state id t (find_retained start.state id) refl
  held (c ∷ before) id t k =
      let st = after start before in
      let w = standing start fine before in
      held_max _ _ (step st c.call c.room).state id t
      (hold_step start.params st w.size w.router w.codes c.call c.room _ id t k (held before id t k))
      (shut_step start.params st w.size w.router w.codes c.call c.room id t k)

  kept_of : (calls : List Made) (s t : ℕ) → s < slot_count → t < 8 → is_member (after start calls) t s ≡ true → KeptOutOf start calls s t
  unfolding is_member
  kept_of calls s t h k m =
      let st = after start calls in
      let w = standing start fine calls in
      let on = member_connected st w.router t s k h m in
      let o = outs calls s t h k (eqb-true _ _ m) in
      let g = ((valid_facts st w.router).topic s t h k).times in
      record {
        over = o;
        since = omega (arith, g);
        prunes =
            ⊎_elim
            (λ a. a)
            (λ x.
            let e : x.0 ≡ s = id_is st w.size w.router s h (λ z. omega (arith, z, on)) x.0 x.3 in
            let f : end_in st x.0 t ≡ end_in st s t = ap (λ (i : ℕ). end_in st i t) e in
            omega (arith, x.4, f, o, g))
            (held calls (peer_in st s).id t k);
      }

pub kept_out : KeptOut
kept_out start calls fine =
    let w = standing start fine calls in
    record { members = kept_of start fine calls; grafts = grafts_free start.params (after start calls) w.size w.router w.codes }

pub program_kept_out : ProgramKeptOut
program_kept_out start calls table fine p =
    record { state = (agrees start calls table fine p).state; out = kept_out start (map made calls) fine }
