-- No member's backoff runs: it ended when he came in, or before. Most calls take nobody in and lengthen no member's backoff (`Calmer`);
-- GRAFT in and the heartbeat take in only whom the test of the backoff let through.
-- Assumes nothing.
use Rattle.rules.proofs.ConnectLaws.{by_connect}
use Prim.Native.Nat.{ℕ, ◌≤◌, ◌<◌}
use native.Mathlib.Omega.{arith}
use mathlib.Core.Path.{◌≡◌, sym, ap, ◌∙◌}
use mathlib.Core.Logic.{◌≢◌, ⊎_elim}
use mathlib.Core.Bool.{Bool, true, false, false≢true}
use mathlib.Core.List.{List}
use lib.Dec.{leb}
use lib.ListN.{get_or}
use borrow.Author.Tests.{eqb-false, ltb-false}
use Rattle.index.specs.Index.{iter}
use Rattle.index.proofs.Index.{both, iter_keeps}
use Rattle.index.proofs.Flags.{cond_case}
use Rattle.records.specs.declared.Peer.{Peer}
use Rattle.records.specs.declared.TopicRecord.{TopicRecord}
use Rattle.records.specs.declared.Groups.{Groups}
use Rattle.records.specs.Records.{State, slot_count, place, peer_in, topic_in, set_clock}
use Rattle.layout.proofs.StateLaws.{topic_case, peer_after_topic}
use Rattle.validity.specs.Valid.{valid}
use Rattle.effects.specs.Effects.{prune_backoff, connected_as, into_mesh, on_peer, on_topic, is_joined, is_member}
use Rattle.effects.specs.Effects.{pruned, end_after, reclaimed}
use Rattle.effects.proofs.EffectLaws.{pruned_other}
use Rattle.sets.specs.Sets.{at, is_permutation}
use Rattle.sets.proofs.SetLaws.{both_left}
use Rattle.sets.proofs.SlotLaws.{slots_in}
use Rattle.rules.specs.declared.Answer.TheVariants.{NotPermutation}
use Rattle.rules.specs.Reply.{Reply, refused, ignored}
use Rattle.rules.specs.Calls.{Call, connect, disconnect, join, leave, subscribe, unsubscribe, graft, prune, deliver, rate, heartbeat, decay}
use Rattle.rules.specs.Calls.{groups_of, score, topic_ok, arguments_ok}
use Rattle.rules.proofs.GraftLaws.{by_graft}
use Rattle.rules.specs.Step.{is_candidate, of_peer, connect_at, connect_reply}
use Rattle.rules.specs.Step.{graft_reply, view_in, meshes_in, punished, settle_slot}
use Rattle.rules.specs.Step.{maintained_reply, heartbeat_reply, effect, step}
use Rattle.rules.proofs.HeartbeatLaws.{view_kept}
use Rattle.rules.proofs.Words.{candidate_past}
use Rattle.rules.proofs.PunishedLaws.{punished_peer}
use Rattle.rules.proofs.CaseLaws.{topic_in_lem, topic_of_both, arguments, by_peer, by_gate}
use Rattle.promises.specs.Ends.{end_in}
use Rattle.promises.proofs.Calmer.{Calmer, calmer_then, calmer_clock, calmer_moved, calmer_connected, calmer_punished, calmer_pruned}
use Rattle.promises.proofs.Calmer.{calmer_still, calmer_disconnect, calmer_join, calmer_leave, calmer_subscribe, calmer_unsubscribe}
use Rattle.promises.proofs.Calmer.{calmer_prune, calmer_deliver, calmer_rate, calmer_decay, calmer_refused, calmer_raised}
use Rattle.promises.proofs.Calmer.{calmer_reclaimed}

abbrev pub Out : State → Type 0
Out st = (s t : ℕ) → s < slot_count → t < 8 → (topic_in st (place s t)).member ≡ 1 → end_in st s t ≤ (topic_in st (place s t)).graft

pub out_calmer : (st u : State) → Out st → Calmer st u → Out u
out_calmer st u o f s t h k m =
    let w = f s t h k m in
    omega (arith, o s t h k w.member, w.graft, w.end)

-- one comes in whose backoff is over
pub out_taken : (st : State) (time t s : ℕ) → t < 8 → Out st → end_in st s t ≤ time → Out (on_topic st s t (λ r. into_mesh r time))
unfolding into_mesh
out_taken st time t s k o e i v h l =
    let r = into_mesh (topic_in st (place s t)) time in
    let same : end_in (on_topic st s t (λ r. into_mesh r time)) i v ≡ end_in st i v =
    ap (λ (p : Peer). get_or p.backoff v 0) (peer_after_topic st (place s t) r i) in
    topic_case st
    (λ (q : TopicRecord). q.member ≡ 1 → end_in (on_topic st s t (λ r. into_mesh r time)) i v ≤ q.graft)
    (place s t) r (place i v)
    (λ (z : place i v ≡ place s t) m.
    let a : i ≡ s = omega arith in
    let b : v ≡ t = omega arith in
    let c : end_in st i v ≡ end_in st s t = ap (λ (j : ℕ). end_in st j v) a ∙ ap (end_in st s) b in
    omega (arith, e, c, same))
    (λ m. omega (arith, o i v h l m, same))

-- ---- GRAFT
module _ (st : State) (o : Out st) (time t s : ℕ) (k : t < 8) where
  abbrev After : Reply → Type 0
  After r = Out r.state

  pub out_graft : After (graft_reply st time t s)
  out_graft =
      let u = on_topic st s t (λ r. into_mesh r time) in
      by_graft After st time t s
      (λ e. out_calmer st _ o (calmer_still st time))
      (λ e m. out_calmer st _ o (calmer_still st time))
      (λ e. out_calmer st _ o (calmer_refused st time t s (eqb-false _ _ e.new)))
      (λ e. out_calmer st _ o (calmer_raised st time t s (eqb-false _ _ e.outside.new)))
      (λ e. out_calmer u (set_clock u time) (out_taken st time t s k o (ltb-false time (end_in st s t) e.over)) (calmer_clock u time))

-- ---- connect
module _ (st : State) (o : Out st) (time id : ℕ) (groups : Groups) (flags : ℕ) where
  abbrev Left : Reply → Type 0
  Left r = Out r.state

  taken : (version s : ℕ) → Left (connect_at (reclaimed st time) time id groups flags version s)
  unfolding connect_at
  taken version s =
      let u = reclaimed st time in
      let w = on_peer u s (λ p. connected_as p id groups flags version) in
      out_calmer u (set_clock w time)
      (out_calmer st u o (calmer_reclaimed st time))
      (calmer_moved u time w (calmer_connected u s id groups flags version))

  pub out_connect : (name : List ℕ) → Left (connect_reply st time id groups flags name)
  out_connect name =
      by_connect Left st time id groups flags name (λ n. o) (λ v s n c. o) (λ v s n c r. taken v s) (λ v s n c r e. taken v s)
      (λ v n c r e. o)

-- ---- heartbeat
-- whom it takes in is a candidate: his backoff is over
candidate_over : (st : State) (time t s : ℕ) → is_candidate st time t s ≡ true → end_in st s t ≤ time
candidate_over st time t s e = ⊎_elim (λ z. omega (arith, z)) (λ z. omega (arith, z)) (candidate_past st time t s e)

module _ (st : State) (time t ask : ℕ) (order : List ℕ) where
  abbrev mesh : List Bool
  mesh = (meshes_in st time t ask order).fifth

  pub new_candidate :
      valid st ≡ true → is_permutation slot_count order ≡ true → (s : ℕ) → at mesh s ≡ true → is_member st t s ≡ false →
      is_candidate st time t s ≡ true
  unfolding view_in
  new_candidate ok right s a m =
      ⊎_elim
      (λ p. let q = (slots_in (is_member st t) slot_count s (both_left _ _ s p)).1 in absurd (false≢true (sym m ∙ q)))
      (λ c. (slots_in (is_candidate st time t) slot_count s c).1)
      ((view_kept st time t ask order ok right).pool s a)

  -- along the walk: those who are still to come in have no backoff that runs
  abbrev Walk : State → Type 0
  Walk u = Out u × ((s : ℕ) → at mesh s ≡ true → is_member st t s ≡ false → end_in u s t ≤ time)

  turn : t < 8 → (i : ℕ) (u : State) → Walk u → Walk (settle_slot st time t mesh i u)
  unfolding settle_slot
  turn k i u w =
      let end = end_after time (prune_backoff st) in
      let p = punished st t i u in
      cond_case Walk (is_member st t i) _ _
      (λ m.
      cond_case Walk (at mesh i) u (pruned p i t end) (λ a. w) (λ a. (
        out_calmer u (pruned p i t end) w.0
            (calmer_then {a = u} {b = p} {c = pruned p i t end} (calmer_punished st t i u) (calmer_pruned p i t end)),
        λ s b n.
            let apart : s ≢ i = λ e. false≢true (sym a ∙ ap (at mesh) (sym e) ∙ b) in
            let e : peer_in (pruned p i t end) s ≡ peer_in u s = pruned_other p i t end s apart ∙ punished_peer st t i u s in
            let f : end_in (pruned p i t end) s t ≡ end_in u s t = ap (λ (q : Peer). get_or q.backoff t 0) e in
            omega (arith, f, w.1 s b n),
      )))
      (λ m.
      cond_case Walk (at mesh i) (on_topic u i t (λ r. into_mesh r time)) u (λ a. (
        out_taken u time t i k w.0 (w.1 i a m),
        λ s b n.
            let f : end_in (on_topic u i t (λ r. into_mesh r time)) s t ≡ end_in u s t =
            ap (λ (q : Peer). get_or q.backoff t 0) (peer_after_topic u (place i t) _ s) in
            omega (arith, f, w.1 s b n),
      )) (λ a. w))

  pub out_heartbeat : valid st ≡ true → t < 8 → Out st → Out (heartbeat_reply st time t ask order).state
  unfolding heartbeat_reply maintained_reply
  out_heartbeat ok k o =
      let walked = iter slot_count (settle_slot st time t mesh) st in
      cond_case (λ (r : Reply). Out r.state) (is_permutation slot_count order) _ (refused NotPermutation st)
      (λ right.
      cond_case (λ (r : Reply). Out r.state) (is_joined st t) (maintained_reply st time t ask order) (ignored st time)
      (λ j.
      out_calmer walked (set_clock walked time)
      (iter_keeps Walk (settle_slot st time t mesh) slot_count st
      (o, λ s a m. candidate_over st time t s (new_candidate ok right s a m))
      (λ i u l. turn k i u)).0
      (calmer_clock walked time))
      (λ j. out_calmer st _ o (calmer_still st time)))
      (λ wrong. o)

-- ---- every call
of_peer_lem : (st : State) → Out st → (id : ℕ) (f : ℕ → Reply) → ((s : ℕ) → Calmer st (f s).state) → Out (of_peer st id f).state
of_peer_lem st o id f h = by_peer (λ (r : Reply). Out r.state) st id f o (λ s l on. out_calmer st (f s).state o (h s))

pub out_effect : (st : State) → valid st ≡ true → Out st → (c : Call) → arguments_ok c ≡ true → Out (effect st c).state
unfolding effect
out_effect st ok o (connect time id groups flags name) a = out_connect st o time id (groups_of groups) flags name
out_effect st ok o (disconnect time id) a = of_peer_lem st o id _ (calmer_disconnect st time)
out_effect st ok o (join time t) a = out_calmer st _ o (calmer_join st time t)
out_effect st ok o (leave time t) a = out_calmer st _ o (calmer_leave st time t)
out_effect st ok o (subscribe time id t) a = of_peer_lem st o id _ (calmer_subscribe st time t)
out_effect st ok o (unsubscribe time id t) a = of_peer_lem st o id _ (calmer_unsubscribe st time t)
out_effect st ok o (graft time id t) a =
    by_peer (λ (r : Reply). Out r.state) st id _ o (λ s l on. out_graft st o time t s (topic_of_both id t a))
out_effect st ok o (prune time id t seconds) a = of_peer_lem st o id _ (λ s. calmer_prune st time t s seconds)
out_effect st ok o (deliver time id t kind) a = of_peer_lem st o id _ (λ s. calmer_deliver st time t s kind)
out_effect st ok o (rate time id p5) a = of_peer_lem st o id _ (calmer_rate st time p5)
out_effect st ok o (heartbeat time t ask order) a =
    out_heartbeat st time t ask order ok (topic_in_lem t (both (topic_ok t) (leb ask 1) a).0) o
out_effect st ok o (decay time) a = out_calmer st _ o (calmer_decay st time)
out_effect st ok o (score time id) a = of_peer_lem st o id _ (λ s. calmer_still st time)

pub out_step : (st : State) (c : Call) (room : ℕ) → Out st → Out (step st c room).state
out_step st c room o =
    by_gate (λ (r : Reply). Out r.state) st c room (λ a e. o) (λ p. out_effect st p.router o c (arguments c p.ranges))
