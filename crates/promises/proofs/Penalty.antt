-- P7: a relation between two states that composes, `Milder`, kept by every store but the one of a GRAFT in during a backoff.
-- Assumes nothing.
use Rattle.std.proofs.Common.{Some}
use Rattle.rules.proofs.ConnectLaws.{by_connect}
use Prim.Native.Nat.{ℕ, ◌+◌, ◌≤◌, ◌<◌, min}
use native.Mathlib.Omega.{arith}
use mathlib.Core.Path.{◌≡◌, refl, sym, ap, ◌∙◌}
use mathlib.Core.Logic.{◌≢◌, ◌⊎◌, inl, inr}
use mathlib.Core.Bool.{Bool, true, cond, false}
use mathlib.Core.List.{List, [], map}
use lib.Dec.{eqb}
use borrow.Author.Tests.{eqb-true, eqb-false, ne_eqb, ltb-true, lt-ltb, eq-eqb}
use Rattle.index.specs.Index.{iter}
use Rattle.index.proofs.Index.{iter_keeps}
use Rattle.index.proofs.Flags.{by_test, cond_case}
use Rattle.varint.specs.Codes.{code_of, magnitude}
use Rattle.params.specs.declared.Params.{Params}
use Rattle.records.specs.declared.Peer.{Peer}
use Rattle.records.specs.declared.TopicRecord.{TopicRecord}
use Rattle.records.specs.declared.Groups.{Groups}
use Rattle.records.specs.Records.{State, no_peer, no_topic, slot_count, place, code_in, peer_in, joined_in, set_clock, set_joined, set_peer}
use Rattle.records.specs.Records.{set_topic, is_connected}
use Rattle.layout.specs.View.{Sized}
use Rattle.layout.proofs.StateLaws.{peer_case, peer_same, peer_other, peer_after_clock, peer_after_joined, peer_after_topic}
use Rattle.layout.proofs.StateLaws.{code_after_peer}
use Rattle.layout.proofs.StateLaws.{code_after_topic}
use Rattle.validity.specs.Valid.{valid}
use Rattle.validity.proofs.ValidLaws.{valid_facts}
use Rattle.lookup.specs.Find.{find_connected}
use Rattle.lookup.proofs.FindLaws.{connected_is}
use Rattle.score.specs.Counters.{count_most, raised_of, decayed_of}
use Rattle.score.specs.Score.{topic_params_in}
use Rattle.score.proofs.CounterLaws.{faded_less}
use Rattle.effects.specs.Effects.{unsubscribe_backoff, with_end, with_p5, with_p7, connected_as, retained_to, out_of_mesh, into_mesh}
use Rattle.effects.specs.Effects.{with_subscribed, on_peer, on_topic, is_joined, is_member, pruned, end_after, left_topic, departed}
use Rattle.effects.specs.Effects.{reclaimable, emptied, reclaim_slot, reclaimed}
use Rattle.sets.specs.Sets.{at, is_permutation}
use Rattle.rules.specs.declared.Answer.TheVariants.{NotPermutation}
use Rattle.rules.specs.Reply.{Reply, refused, ignored, done}
use Rattle.rules.specs.Calls.{Call, connect, disconnect, join, leave, subscribe, unsubscribe, graft, prune, deliver, rate, heartbeat, decay}
use Rattle.rules.specs.Calls.{groups_of, score, time_of, in_range}
use Rattle.rules.proofs.GraftLaws.{Early, by_graft}
use Rattle.rules.specs.Step.{is_graylisted, is_heard, of_peer, connect_at, connect_reply, join_reply, punished, seen_in, raised_p7, graft_case}
use Rattle.rules.specs.Step.{leave_slot, leave_reply, subscribe_reply, unsubscribe_reply, graft_refused}
use Rattle.rules.specs.Step.{graft_reply, prune_reply, delivered_of, deliver_reply, meshes_in, settle_slot, maintained_reply}
use Rattle.rules.specs.Step.{heartbeat_reply, decay_floor, decay_topic, decay_p7, decay_slot, decay_reply, effect, step}
use Rattle.rules.proofs.CaseLaws.{by_peer, by_gate}
use Rattle.rules.proofs.GateLaws.{gate_0}
use Rattle.rules.proofs.PunishedLaws.{punished_peer}
use Rattle.gate.proofs.StandingLaws.{sizes}
use Rattle.call_lists.specs.Lists.{after}
use Rattle.call_lists.proofs.Demand3.{standing}
use Rattle.promises.specs.Numbers.{Admitted}
use Rattle.promises.specs.Penalty.{TooEarly, p7_in, P7Rises}
use Rattle.promises.proofs.Ignored.{not_deaf, gray_yes}
use Rattle.promises.proofs.KeptOut.{by_id}

-- ---- no higher
abbrev Milder : State → State → Type 0
Milder st u = (s : ℕ) → p7_in u s ≤ p7_in st s

milder_self : (st : State) → Milder st st
milder_self st s = omega arith

milder_then : (a b c : State) → Milder a b → Milder b c → Milder a c
milder_then a b c f g s = omega (arith, f s, g s)

milder_same : (st u : State) → ((s : ℕ) → peer_in u s ≡ peer_in st s) → Milder st u
milder_same st u h s = let e = ap (λ (p : Peer). p.p7) (h s) in omega (arith, e)

milder_clock : (st : State) (n : ℕ) → Milder st (set_clock st n)
milder_clock st n = milder_same st (set_clock st n) (peer_after_clock st n)

milder_topic : (st : State) (s t : ℕ) (g : TopicRecord → TopicRecord) → Milder st (on_topic st s t g)
milder_topic st s t g = milder_same st (on_topic st s t g) (peer_after_topic st (place s t) _)

milder_peer : (st : State) (i : ℕ) (p : Peer) → p.p7 ≤ p7_in st i → Milder st (set_peer st i p)
milder_peer st i p h s = peer_case st (λ (q : Peer). q.p7 ≤ p7_in st s) i p s (λ e. rw e h) (omega arith)

milder_iter : (f : ℕ → State → State) (n : ℕ) (st : State) → ((i : ℕ) (u : State) → Milder u (f i u)) → Milder st (iter n f st)
milder_iter f n st h = iter_keeps (λ (u : State). Milder st u) f n st (milder_self st) (λ i u l w. milder_then st u (f i u) w (h i u))

milder_either : (st : State) (b : Bool) (u v : State) → Milder st u → Milder st v → Milder st (cond b u v)
milder_either st b u v f g = cond_case (Milder st) b u v (λ e. f) (λ e. g)

-- ---- the stores
milder_end : (st : State) (s t end : ℕ) → Milder st (on_peer st s (λ p. with_end p t end))
unfolding with_end
milder_end st s t end = milder_peer st s _ (omega arith)

milder_pruned : (st : State) (s t end : ℕ) → Milder st (pruned st s t end)
unfolding pruned
milder_pruned st s t end =
    let u = on_topic st s t out_of_mesh in
    milder_then st u (pruned st s t end) (milder_topic st s t out_of_mesh) (milder_end u s t end)

milder_out : (st : State) (t s end : ℕ) (u : State) → Milder u (pruned (punished st t s u) s t end)
milder_out st t s end u =
    let w = punished st t s u in
    milder_then u w (pruned w s t end) (milder_same u w (punished_peer st t s u)) (milder_pruned w s t end)

milder_leave : (st : State) (t end s : ℕ) (u : State) → Milder u (leave_slot st t end s u)
unfolding leave_slot
milder_leave st t end s u = milder_either u (is_member st t s) _ u (milder_out st t s end u) (milder_self u)

milder_settle : (st : State) (time t : ℕ) (mesh : List Bool) (s : ℕ) (u : State) → Milder u (settle_slot st time t mesh s u)
unfolding settle_slot
milder_settle st time t mesh s u =
    milder_either u (is_member st t s) _ _
    (milder_either u (at mesh s) u _ (milder_self u) (milder_out st t s _ u))
    (milder_either u (at mesh s) _ u (milder_topic u s t (λ r. into_mesh r time)) (milder_self u))

milder_departed : (st : State) (s time : ℕ) → Milder st (departed st s time)
unfolding departed left_topic retained_to
milder_departed st s time =
    let w = iter 8 (λ t u. left_topic u s t) st in
    milder_then st w (departed st s time)
    (milder_iter (λ t u. left_topic u s t) 8 st (λ t u. milder_topic u s t (λ r. with_subscribed (out_of_mesh r) 0)))
    (milder_peer w s _ (omega arith))

milder_reclaimed : (st : State) (time : ℕ) → Milder st (reclaimed st time)
unfolding reclaimed reclaim_slot emptied
milder_reclaimed st time =
    milder_iter (reclaim_slot time) slot_count st (λ i u.
    let w = iter 8 (λ t v. set_topic v (place i t) no_topic) u in
    milder_either u (reclaimable (peer_in u i) time) (set_peer w i no_peer) u
    (milder_then u w (set_peer w i no_peer)
    (milder_iter (λ t v. set_topic v (place i t) no_topic) 8 u (λ t v. milder_same v _ (peer_after_topic v (place i t) no_topic)))
    (milder_peer w i no_peer (omega arith)))
    (milder_self u))

-- ---- decay: the factor is below one
module _ (st : State) (ok : valid st ≡ true) (time : ℕ) where
  record Faded (u : State) : Type 0 where
    milder : Milder st u
    code : code_in u 17 ≡ code_in st 17

  faded_topics : (i : ℕ) (u : State) → Faded u → Faded (iter 8 (decay_topic time i) u)
  unfolding decay_topic
  faded_topics i u w =
      iter_keeps Faded (decay_topic time i) 8 u w (λ t v l x.
      record {
        milder =
            milder_then st v (decay_topic time i t v) x.milder (milder_topic v i t (decayed_of (topic_params_in v t) (decay_floor v) time));
        code = code_after_topic v (place i t) _ 17 ∙ x.code;
      })

  faded_slot : (i : ℕ) (u : State) → Faded u → Faded (decay_slot time i u)
  unfolding decay_slot decay_p7 with_p7
  faded_slot i u w =
      let v = iter 8 (decay_topic time i) u in
      let x = faded_topics i u w in
      cond_case Faded (is_connected (peer_in u i)) (decay_p7 i v) u
      (λ c.
      let e = ap magnitude x.code in
      let f = faded_less (decay_floor v) (magnitude (code_in v 17)) (p7_in v i) (omega (arith, e, (sizes st ok).fade)) in
      record {
        milder = milder_then st v (decay_p7 i v) x.milder (milder_peer v i _ f);
        code = code_after_peer v i _ 17 ∙ x.code;
      })
      (λ c. w)

  milder_decay : Milder st (decay_reply st time).state
  unfolding decay_reply
  milder_decay =
      let u = iter slot_count (decay_slot time) st in
      let w : Faded u =
      iter_keeps Faded (decay_slot time) slot_count st (record { milder = milder_self st; code = refl }) (λ i u l. faded_slot i u) in
      milder_then st u (set_clock u time) w.milder (milder_clock u time)

-- ---- replies
module _ (st : State) (time : ℕ) where
  abbrev Mild : Reply → Type 0
  Mild r = Milder st r.state

  ticks : (u : State) → Milder st u → Milder st (set_clock u time)
  ticks u h = milder_then st u (set_clock u time) h (milder_clock u time)

  mild_ignored : Mild (ignored st time)
  mild_ignored = milder_clock st time

  mild_if : (b : Bool) (r q : Reply) → Mild r → Mild q → Mild (cond b r q)
  mild_if b r q f g = cond_case Mild b r q (λ e. f) (λ e. g)

  mild_peer : (id : ℕ) (f : ℕ → Reply) → ((s : ℕ) → Mild (f s)) → Mild (of_peer st id f)
  mild_peer id f h = by_peer Mild st id f (milder_self st) (λ s l on. h s)

  mild_at : (id : ℕ) (groups : Groups) (flags v s : ℕ) → Mild (connect_at (reclaimed st time) time id groups flags v s)
  unfolding connect_at connected_as
  mild_at id groups flags v s =
      let u = reclaimed st time in
      ticks _ (milder_then st u _ (milder_reclaimed st time) (milder_peer u s _ (omega arith)))

  mild_connect : (id : ℕ) (groups : Groups) (flags : ℕ) (name : List ℕ) → Mild (connect_reply st time id groups flags name)
  mild_connect id groups flags name =
      by_connect Mild st time id groups flags name
      (λ n. milder_self st)
      (λ v s n c. milder_self st)
      (λ v s n c r. mild_at id groups flags v s)
      (λ v s n c r e. mild_at id groups flags v s)
      (λ v n c r e. milder_self st)

  mild_join : (t : ℕ) → Mild (join_reply st time t)
  unfolding join_reply
  mild_join t =
      mild_if (is_joined st t) (ignored st time) _ mild_ignored
      (ticks (set_joined st t 1) (milder_same st (set_joined st t 1) (peer_after_joined st t 1)))

  mild_leave : (t : ℕ) → Mild (leave_reply st time t)
  unfolding leave_reply
  mild_leave t =
      let end = end_after time (unsubscribe_backoff st) in
      let u = iter slot_count (leave_slot st t end) st in
      mild_if (is_joined st t) _ (ignored st time)
      (ticks (set_joined u t 0)
      (milder_then st u (set_joined u t 0) (milder_iter (leave_slot st t end) slot_count st (milder_leave st t end))
      (milder_same u (set_joined u t 0) (peer_after_joined u t 0))))
      mild_ignored

  mild_subscribe : (t s : ℕ) → Mild (subscribe_reply st time t s)
  unfolding subscribe_reply
  mild_subscribe t s =
      mild_if (is_graylisted st s) (ignored st time) (done (on_topic st s t (λ r. with_subscribed r 1)) time []) mild_ignored
      (ticks _ (milder_topic st s t (λ r. with_subscribed r 1)))

  mild_unsubscribe : (t s : ℕ) → Mild (unsubscribe_reply st time t s)
  unfolding unsubscribe_reply
  mild_unsubscribe t s =
      mild_if (is_graylisted st s) (ignored st time) (done (on_topic st s t (λ r. with_subscribed (out_of_mesh r) 0)) time []) mild_ignored
      (ticks _ (milder_topic st s t (λ r. with_subscribed (out_of_mesh r) 0)))

  mild_prune : (t seconds s : ℕ) → Mild (prune_reply st time t seconds s)
  unfolding prune_reply
  mild_prune t seconds s = mild_if (is_heard st t s) _ (ignored st time) (ticks _ (milder_pruned st s t _)) mild_ignored

  mild_deliver : (t kind s : ℕ) → Mild (deliver_reply st time t kind s)
  unfolding deliver_reply
  mild_deliver t kind s =
      mild_if (is_heard st t s) (done (on_topic st s t (delivered_of kind (topic_params_in st t))) time []) (ignored st time)
      (ticks _ (milder_topic st s t (delivered_of kind (topic_params_in st t))))
      mild_ignored

  mild_heartbeat : (t ask : ℕ) (order : List ℕ) → Mild (heartbeat_reply st time t ask order)
  unfolding heartbeat_reply maintained_reply
  mild_heartbeat t ask order =
      let mesh = (meshes_in st time t ask order).fifth in
      mild_if (is_permutation slot_count order) _ (refused NotPermutation st)
      (mild_if (is_joined st t) (maintained_reply st time t ask order) (ignored st time)
      (ticks _ (milder_iter (settle_slot st time t mesh) slot_count st (milder_settle st time t mesh)))
      mild_ignored)
      (milder_self st)

  mild_back : (t s : ℕ) → Mild (graft_refused st time t s (peer_in st s))
  unfolding graft_refused
  mild_back t s = ticks _ (milder_end st s t _)

-- ---- GRAFT in
module _ (params : Params) (st : State) (codes : st.codes ≡ map code_of params.numbers) (c : Call) where
  abbrev Cause : ℕ → Type 0
  Cause s = (time : ℕ) × (t : ℕ) × (c ≡ graft time (peer_in st s).id t) × TooEarly params st time t s

  abbrev Only : Reply → Type 0
  Only r = (s : ℕ) → (p7_in r.state s ≤ p7_in st s) ⊎ Cause s

  raised_other : (time t i s : ℕ) (p : Peer) → s ≢ i → p7_in (graft_refused st time t i p).state s ≡ p7_in st s
  unfolding graft_refused
  raised_other time t i s p x = ap (λ (p : Peer). p.p7) (peer_after_clock (set_peer st i _) time s ∙ peer_other st i _ s x)

  -- the call of a peer whose backoff runs
  too_early : (time t i : ℕ) → (peer_in st i).status ≡ 1 → Early (seen_in st t i) time t → TooEarly params st time t i
  unfolding is_heard is_member
  too_early time t i on e =
      record {
        connected = on;
        joined = eqb-true (joined_in st t) 1 e.outside.joined;
        heard = λ g. not_deaf params st codes i t e.outside.heard (inr g);
        out = e.outside.new;
        plain = eqb-false (peer_in st i).explicit 1 e.plain;
        runs = ltb-true _ _ e.runs;
      }

  only_graft : (time t i : ℕ) → c ≡ graft time (peer_in st i).id t → (peer_in st i).status ≡ 1 → Only (graft_reply st time t i)
  only_graft time t i e on =
      by_graft Only st time t i
      (λ h s. inl (milder_clock st time s))
      (λ h m s. inl (milder_clock st time s))
      (λ h s. inl (mild_back st time t i s))
      (λ h s.
      by_test _ (eqb s i)
      (λ q. inr (rw (eqb-true s i q) (time, t, e, too_early time t i on h)))
      (λ q. inl (omega (arith, raised_other time t i s (raised_p7 (peer_in st i)) (eqb-false s i q)))))
      (λ h s. inl (ticks st time _ (milder_topic st i t (λ r. into_mesh r time)) s))

-- ---- every call
module _ (params : Params) (st : State) (ok : valid st ≡ true) (codes : st.codes ≡ map code_of params.numbers) where
  only_effect : (c : Call) → Only params st codes c (effect st c)
  unfolding effect with_p5
  only_effect (connect time id groups flags name) = λ s. inl ((mild_connect st time id (groups_of groups) flags name) s)
  only_effect (disconnect time id) =
      λ i. inl ((mild_peer st time id _ (λ s. ticks st time _ (milder_departed st s time))) i)
  only_effect (join time t) = λ s. inl ((mild_join st time t) s)
  only_effect (leave time t) = λ s. inl ((mild_leave st time t) s)
  only_effect (subscribe time id t) = λ s. inl ((mild_peer st time id _ (mild_subscribe st time t)) s)
  only_effect (unsubscribe time id t) = λ s. inl ((mild_peer st time id _ (mild_unsubscribe st time t)) s)
  only_effect (graft time id t) =
      by_id st (Only params st codes (graft time id t)) id _ (λ s. inl (milder_self st s)) (λ s l on e.
      only_graft params st codes (graft time id t) time t s (ap (λ (x : ℕ). graft time x t) (sym e)) on)
  only_effect (prune time id t seconds) = λ s. inl ((mild_peer st time id _ (mild_prune st time t seconds)) s)
  only_effect (deliver time id t kind) = λ s. inl ((mild_peer st time id _ (mild_deliver st time t kind)) s)
  only_effect (rate time id p5) =
      λ i. inl ((mild_peer st time id _ (λ s. ticks st time _ (milder_peer st s _ (omega arith)))) i)
  only_effect (heartbeat time t ask order) = λ s. inl ((mild_heartbeat st time t ask order) s)
  only_effect (decay time) = λ s. inl ((milder_decay st ok time) s)
  only_effect (score time id) = λ i. inl ((mild_peer st time id _ (λ s. milder_clock st time)) i)

  raised_same :
      (time t s : ℕ) → Sized st → s < slot_count →
      p7_in (graft_refused st time t s (raised_p7 (peer_in st s))).state s ≡ raised_of (p7_in st s) count_most
  unfolding graft_refused with_end raised_p7 with_p7
  raised_same time t s size h =
      ap (λ (q : Peer). q.p7) (peer_after_clock (set_peer st s _) time s ∙ peer_same st s _ (omega (arith, size.peers, h)))

  rises_early :
      (time t s room : ℕ) → Sized st → s < slot_count → Admitted st (graft time (peer_in st s).id t) room → TooEarly params st time t s →
      p7_in (step st (graft time (peer_in st s).id t) room).state s ≡ min (p7_in st s + 1000) 1000000
  unfolding step effect graft_reply graft_case is_member
  rises_early time t s room size h a w =
      let id = (peer_in st s).id in
      let c = graft time id t in
      let g = gate_0 st (in_range c) room (time_of c) st.clock a.router a.ranges a.list refl a.time in
      let at_slot : find_connected st id ≡ Some s = connected_is st (valid_facts st ok) s h w.connected in
      let low : is_graylisted st s ≡ false =
      by_test _ (is_graylisted st s) (λ e. absurd (w.heard (gray_yes params st codes s e))) (λ e. e) in
      rw
      (← g, at_slot, eq-eqb _ _ w.joined, low, w.out, ne_eqb (peer_in st s).explicit 1 w.plain, lt-ltb _ _ w.runs)
      (raised_same time t s size h)

pub p7_rises : P7Rises
p7_rises start calls fine s h =
    let st = after start calls in
    let w = standing start fine calls in
    record {
      rises = λ time t room. rises_early start.params st w.router w.codes time t s room w.size h;
      only = λ c room.
          by_gate (λ (r : Reply). (p7_in r.state s ≤ p7_in st s) ⊎ Cause start.params st w.codes c s) st c room
          (λ a e. inl (omega arith))
          (λ p. only_effect start.params st w.router w.codes c s);
    }
