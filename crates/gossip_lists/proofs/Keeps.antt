-- Every call keeps the tables a router's: 01's state as crate rules shows it, the new parts as crate gossip does (Sound).
-- Assumes nothing.
use Rattle.std.proofs.Common.{Option, Some, None}
use Prim.Native.Nat.{ℕ, ◌<◌, ◌≤◌}
use native.Mathlib.Omega.{arith}
use mathlib.Core.Path.{◌≡◌, refl, sym, ap, ◌∙◌}
use mathlib.Core.Bool.{Bool, true, false, cond, not, ◌||◌}
use mathlib.Core.List.{List, []}
use lib.Dec.{eqb}
use lib.ListN.{get_or}
use lib.Seq.{get_or-set_other}
use borrow.Author.Tests.{eqb-true, eqb-false, eq-eqb, leb-true}
use Rattle.index.proofs.Index.{both}
use Rattle.index.proofs.Flags.{by_test, cond_case}
use Rattle.index.proofs.Lists.{set_case}
use Rattle.records.specs.declared.Peer.{Peer}
use Rattle.records.specs.Records.{State, slot_count, topic_count, joined_in, peer_in, set_clock, set_joined, set_peer}
use Rattle.layout.specs.View.{Sized}
use Rattle.layout.proofs.StateLaws.{peer_after_clock, peer_other, peer_same}
use Rattle.validity.specs.Valid.{max_time, valid}
use Rattle.lookup.specs.Find.{find_connected}
use Rattle.lookup.proofs.FindLaws.{connected_at, retained_at, empty_at}
use Rattle.effects.specs.Effects.{connected_as, is_joined, departed, reclaimed}
use Rattle.effects.proofs.EffectLaws.{reclaimed_peer, reclaimed_stays, reclaimable_connected, sized_reclaimed}
use Rattle.rules.specs.declared.Answer.{Answer}
use Rattle.rules.specs.declared.Answer.TheVariants.{AlreadyConnected, NoSlot, UnknownProtocol, NotConnected}
use Rattle.rules.specs.Reply.{Reply, number_of, refused, ignored, done}
use Rattle.rules.specs.Calls.{Call, connect, disconnect, join, leave, subscribe, unsubscribe, graft, prune, deliver, rate, heartbeat}
use Rattle.rules.specs.Calls.{decay}
use Rattle.rules.specs.Calls.{score, time_ok, arguments_ok, groups_of}
use Rattle.rules.specs.Step.{on_found, of_peer, connect_at, connect_reply, join_reply, leave_reply, heartbeat_reply, decay_reply, effect, step}
use Rattle.rules.proofs.CaseLaws.{topic_in_lem, arguments, by_peer, by_gate}
use Rattle.rules.proofs.ConnectLaws.{by_connect}
use Rattle.rules.proofs.Keeps.{keeps, keeps_sizes}
use Rattle.rules.proofs.KeepsState.{router_start, router_end}
use Rattle.gossip.specs.Notes.{Gossip, Extended, store_in}
use Rattle.gossip.specs.Valid.{store_ok, gossip_ok, valid_all}
use Rattle.gossip.specs.Calls.{New, old, new, time_of_new, new_arguments_ok, new_in_range}
use Rattle.gossip.specs.Step.{FullReply, refused_all, new_effect, new_step, on_found_note, besides, handed, extended, old_step, step_all}
use Rattle.gossip.proofs.ListLaws.{and_by}
use Rattle.gossip.proofs.NoteOk.{store_joined}
use Rattle.gossip.proofs.RepliesOk.{Remain}
use Rattle.gossip.proofs.Fine.{fine_of, of_fine}
use Rattle.gossip.proofs.FineLaws.{fine_stands}
use Rattle.gossip.proofs.Cases.{PassedNew, by_first}
use Rattle.gossip.proofs.Sound.{Sound, sound_effect, sound_leave, sound_parted, sound_connect}
use Rattle.gossip_lists.specs.Kept.{Whole, KeepsAll}
use Rattle.gossip_lists.proofs.Stays.{Calm, Turned, calm_self, calm_clock, calm_ignored, calm_rate, calm_decay, calm_subscribe}
use Rattle.gossip_lists.proofs.Stays.{calm_unsubscribe, calm_prune, calm_deliver, calm_graft, calm_heartbeat, turned_join}
use Rattle.gossip_lists.proofs.Stays.{turned_leave, left, departed_status, departed_other, departed_joined, reclaimed_joined}
use Rattle.gossip_lists.proofs.Frame.{still_effect}

-- ---- the joined flags, by their list
joined_list : (u : State) (v : ℕ) {l : List ℕ} → u.joined ≡ l → is_joined u v ≡ eqb (get_or l v 0) 1
unfolding joined_in
joined_list u v e = ap (λ (l : List ℕ). eqb (get_or l v 0) 1) e

joined_same : (st u : State) (t : ℕ) → u.joined ≡ st.joined → is_joined u t ≡ is_joined st t
joined_same st u t e = joined_list u t e ∙ sym (joined_list st t refl)

joined_clock : (u : State) (n : ℕ) → (set_clock u n).joined ≡ u.joined
unfolding set_clock
joined_clock u n = refl

joined_peer : (u : State) (s : ℕ) (p : Peer) (n : ℕ) → (set_clock (set_peer u s p) n).joined ≡ u.joined
unfolding set_clock set_peer
joined_peer u s p n = refl

sound_calm : (st u : State) (g : Gossip) → Sound st g → Calm st u → Sound u g
sound_calm st u g w c =
    record {
      sizes = w.sizes;
      fine = fine_stands st u g w.fine c.same.status (λ t l. rw (joined_same st u t c.joined) (w.fine.store t l));
    }

module _ (x : Extended) (w : Whole x) where
  abbrev st : State
  st = x.base

  abbrev g : Gossip
  g = x.gossip

  base_ok : valid st ≡ true
  unfolding valid_all
  base_ok = (both (valid st) (gossip_ok st g) w.router).0

  sound : Sound st g
  unfolding valid_all
  sound = record { sizes = w.sizes; fine = fine_of st g (both (valid st) (gossip_ok st g) w.router).1 }

  whole_by : (y : Extended) → Sized y.base → valid y.base ≡ true → Sound y.base y.gossip → Whole y
  unfolding valid_all
  whole_by y size v f = record { size = size; sizes = f.sizes; router = and_by v (of_fine y.base y.gossip f.fine) }

  abbrev Kept : FullReply → Type 0
  Kept r = Whole r.state

  -- ---- the new calls: the clock moves, and the new parts are within their bounds
  module _ (c : New) (p : PassedNew x c) where
    abbrev time : ℕ
    time = time_of_new c

    last : time ≤ max_time
    unfolding new_in_range
    last = leb-true time max_time (both (time_ok time) (new_arguments_ok c) p.ranges).0

    moves : (r : FullReply) → r.state.base ≡ set_clock st time → Sound st r.state.gossip → Kept r
    moves r e f =
        let v = router_end time st (router_start time st w.size base_ok p.clock last) in
        whole_by r.state (rw e v.size) (rw e v.router)
        (rw e (sound_calm st (set_clock st time) r.state.gossip f (calm_clock st time)))

    keeps_effect : Kept (new_effect x c)
    keeps_effect =
        still_effect (λ (r : FullReply). Sound st r.state.gossip → Kept r) x (λ a e f. w) c moves (sound_effect x sound c p)

  keeps_new : (c : New) (room : ℕ) → Kept (new_step x c room)
  keeps_new c room = by_first Kept x (λ a e. w) c room (keeps_effect c)

  -- ---- 01's calls
  abbrev Left : Call → Reply → Type 0
  Left c r = Sound r.state (extended x c r).state.gossip

  alone : (c : Call) (r : Reply) → (extended x c r).state.gossip ≡ g → Calm st r.state → Left c r
  alone c r e f = rw e (sound_calm st r.state g sound f)

  refused_rest : (c : Call) (a : Answer) → eqb (number_of a) 0 ≡ false → Left c (refused a st)
  refused_rest c a e = alone c (refused a st) (rw e) (calm_self st)

  module _ (c : Call) (e : besides st c g ≡ g) where
    calm : (r : Reply) → Calm st r.state → Left c r
    calm r f =
        let b = eqb (number_of r.answer) 0 in
        alone c r (ap (λ (h : Gossip). cond b h g) e ∙ by_test (cond b g g ≡ g) b (λ y. rw y) (λ y. rw y)) f

    of_peer_lem : (id : ℕ) (f : ℕ → Reply) → ((s : ℕ) → Calm st (f s).state) → Left c (of_peer st id f)
    of_peer_lem id f k = by_peer (Left c) st id f (refused_rest c NotConnected refl) (λ s l on. calm (f s) (k s))

  -- join: the topic may store
  into : {u : State} {time t : ℕ} → Turned st time t 1 u → (v : ℕ) → v < topic_count → store_ok (is_joined u v) (store_in g v) ≡ true
  into {u} {time} {t} f v l =
      rw (joined_list u v f.joined)
      (set_case (λ (b : ℕ). store_ok (eqb b 1) (store_in g v) ≡ true) st.joined t v 1 0
      (λ q. store_joined (is_joined st v) (store_in g v) (sound.fine.store v l))
      (ap (λ (b : Bool). store_ok b (store_in g v)) (sym (joined_list st v refl)) ∙ sound.fine.store v l))

  rest_join : (time t : ℕ) → Left (join time t) (join_reply st time t)
  unfolding join_reply besides
  rest_join time t =
      cond_case (Left (join time t)) (is_joined st t) (ignored st time) _
      (λ e. alone (join time t) (ignored st time) refl (calm_ignored st time))
      (λ e.
      let f = turned_join st time t in
      let u = set_clock (set_joined st t 1) time in
      record { sizes = w.sizes; fine = fine_stands st u g sound.fine f.same.status (into f) })

  -- leave
  rest_leave : (time t : ℕ) → t < topic_count → Left (leave time t) (leave_reply st time t)
  unfolding leave_reply
  rest_leave time t k =
      cond_case (Left (leave time t)) (is_joined st t) _ (ignored st time)
      (λ e.
      let f = turned_leave st time t in
      let u = set_clock (set_joined (left st time t) t 0) time in
      sound_leave st u g sound time t k f.same.status (λ v d.
      joined_list u v f.joined ∙ ap (λ (b : ℕ). eqb b 1) (get_or-set_other st.joined t v 0 0 d) ∙ sym (joined_list st v refl)))
      (λ e. alone (leave time t) (ignored st time) refl (calm_ignored st time))

  -- disconnect
  module _ (time id : ℕ) where
    parts_with : (s : ℕ) → s < slot_count → Sound (set_clock (departed st s time) time) (on_found_note (Some s) g)
    parts_with s l =
        let u = set_clock (departed st s time) time in
        sound_parted st u g sound s l
        (λ t. joined_same st u t (joined_clock (departed st s time) time ∙ departed_joined st s time))
        (λ i k d. ap (λ (q : Peer). q.status) (peer_after_clock (departed st s time) time i ∙ departed_other st s time i d))
        (ap (λ (q : Peer). q.status) (peer_after_clock (departed st s time) time s) ∙ departed_status st s time w.size l)

    found :
        (r : Option ℕ) →
        find_connected st id ≡ r →
        Left (disconnect time id) (on_found r (λ s. done (departed st s time) time []) (refused NotConnected st))
    unfolding besides
    found (Some s) e = let q = connected_at st id s e in rw e (parts_with s q.0)
    found None e = refused_rest (disconnect time id) NotConnected refl

  -- connect
  module _ (time id : ℕ) (groups : List ℕ) (flags : ℕ) (name : List ℕ) where
    abbrev con : Call
    con = connect time id groups flags name

    abbrev base : State
    base = reclaimed st time

    module _ (version s : ℕ) (l : s < slot_count) where
      abbrev p : Peer
      p = connected_as (peer_in base s) id (groups_of groups) flags version

      abbrev u : State
      u = set_clock (set_peer base s p) time

      up : (peer_in u s).status ≡ 1
      unfolding connected_as
      up =
          ap (λ (q : Peer). q.status)
          (peer_after_clock (set_peer base s p) time s
          ∙ peer_same base s p (let z = (sized_reclaimed st time w.size).peers in omega arith))

      apart : (i : ℕ) → (i ≡ s → ⊥) → (peer_in u i).status ≡ (peer_in base i).status
      apart i d = ap (λ (q : Peer). q.status) (peer_after_clock (set_peer base s p) time i ∙ peer_other base s p i d)

      -- who was connected is so still
      on_still : Remain st u
      on_still i k on =
          by_test _ (eqb i s)
          (λ a. let q : i ≡ s = eqb-true i s a in rw q (eq-eqb (peer_in u s).status 1 up))
          (λ a.
          let same = reclaimed_stays st time w.size i k (reclaimable_connected (peer_in st i) time on) in
          ap (λ (n : ℕ). eqb n 1) (apart i (eqb-false i s a) ∙ ap (λ (q : Peer). q.status) same) ∙ on)

      taken : Left con (connect_at base time id (groups_of groups) flags version s)
      unfolding connect_at
      taken =
          sound_connect st g sound time id groups flags name u s up
          (λ i k d. apart i d ∙ ap (λ (q : Peer). q.status) (reclaimed_peer st time w.size i k))
          on_still
          (λ t. joined_same st u t (joined_peer base s p time ∙ reclaimed_joined st time))

    rest_connect : Left con (connect_reply st time id (groups_of groups) flags name)
    rest_connect =
        by_connect (Left con) st time id (groups_of groups) flags name
        (λ n. refused_rest con UnknownProtocol refl)
        (λ v s n c. refused_rest con AlreadyConnected refl)
        (λ v s n c r. let q = retained_at base id s r in taken v s q.0)
        (λ v s n c r e. let q = empty_at base s e in taken v s q.0)
        (λ v n c r e. refused_rest con NoSlot refl)

  -- ---- each
  rest : (c : Call) → arguments_ok c ≡ true → Left c (effect st c)
  unfolding effect besides
  rest (connect time id groups flags name) a = rest_connect time id groups flags name
  rest (disconnect time id) a = found time id (find_connected st id) refl
  rest (join time t) a = rest_join time t
  rest (leave time t) a = rest_leave time t (topic_in_lem t a)
  rest (subscribe time id t) a = of_peer_lem (subscribe time id t) refl id _ (calm_subscribe st time t)
  rest (unsubscribe time id t) a = of_peer_lem (unsubscribe time id t) refl id _ (calm_unsubscribe st time t)
  rest (graft time id t) a = of_peer_lem (graft time id t) refl id _ (calm_graft st time t)
  rest (prune time id t seconds) a = of_peer_lem (prune time id t seconds) refl id _ (λ s. calm_prune st time t s seconds)
  rest (deliver time id t kind) a = of_peer_lem (deliver time id t kind) refl id _ (λ s. calm_deliver st time t s kind)
  rest (rate time id p5) a = of_peer_lem (rate time id p5) refl id _ (calm_rate st time p5)
  rest (heartbeat time t ask order) a =
      calm (heartbeat time t ask order) refl (heartbeat_reply st time t ask order) (calm_heartbeat st time t ask order)
  rest (decay time) a = calm (decay time) refl (decay_reply st time) (calm_decay st time)
  rest (score time id) a = of_peer_lem (score time id) refl id _ (λ s. calm_ignored st time)

  keeps_old : (c : Call) (room : ℕ) → Kept (old_step x c room)
  unfolding old_step
  keeps_old c room =
      cond_case Kept (not (handed c) || gossip_ok st g) (extended x c (step st c room)) (refused_all 12 x)
      (λ ok.
      whole_by (extended x c (step st c room)).state
      (keeps_sizes st c room w.size)
      (keeps st c room w.size base_ok)
      (by_gate (Left c) st c room (refused_rest c) (λ p. rest c (arguments c p.ranges))))
      (λ bad. w)

pub keeps_all : KeepsAll
unfolding step_all
keeps_all x (old c) room w = keeps_old x w c room
keeps_all x (new c) room w = keeps_new x w c room
