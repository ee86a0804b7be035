-- 01's calls keep the invariant of the reply bound.
-- Assumes nothing.
use Rattle.std.proofs.Common.{Option, Some, None}
use Prim.Native.Nat.{ℕ, ◌<◌, ◌≤◌}
use native.Mathlib.Omega.{arith}
use mathlib.Core.Path.{◌≡◌, refl, sym, ap, ◌∙◌}
use mathlib.Core.Bool.{Bool, true, false, cond, not, ◌||◌}
use mathlib.Core.List.{List, []}
use lib.Dec.{eqb}
use lib.ListN.{length}
use borrow.Author.Tests.{eqb-true, eqb-false, eq-eqb, ne_eqb}
use Rattle.index.proofs.Flags.{by_test, cond_case}
use Rattle.records.specs.declared.Peer.{Peer}
use Rattle.rules.specs.Calls.{groups_of}
use Rattle.records.specs.Records.{State, slot_count, peer_in, set_clock, set_peer}
use Rattle.layout.specs.View.{Sized}
use Rattle.layout.proofs.StateLaws.{peer_after_clock, peer_other, peer_same}
use Rattle.lookup.specs.Find.{find_connected}
use Rattle.lookup.proofs.FindLaws.{connected_at, retained_at, empty_at, none_connected}
use Rattle.effects.specs.Effects.{connected_as, is_joined, departed, reclaimed}
use Rattle.effects.proofs.EffectLaws.{reclaimed_stays, reclaimable_connected, sized_reclaimed}
use Rattle.sets.specs.Sets.{by_slot}
use Rattle.sets.proofs.SlotLaws.{slots_length}
use Rattle.rules.specs.declared.Answer.{Answer}
use Rattle.rules.specs.declared.Answer.TheVariants.{AlreadyConnected, NoSlot, UnknownProtocol, NotConnected}
use Rattle.rules.specs.Reply.{Reply, number_of, refused, ignored, done}
use Rattle.rules.specs.Calls.{Call, connect, disconnect, join, leave, subscribe, unsubscribe, graft, prune, deliver, rate, heartbeat}
use Rattle.rules.specs.Calls.{decay, score, arguments_ok}
use Rattle.rules.specs.Step.{on_found, of_peer, connect_at, connect_reply, join_reply, leave_reply, heartbeat_reply, decay_reply, effect, step}
use Rattle.rules.proofs.ConnectLaws.{by_connect}
use Rattle.rules.proofs.CaseLaws.{topic_in_lem, arguments, by_peer, by_gate}
use Rattle.rules.proofs.Keeps.{keeps_sizes}
use Rattle.call_lists.proofs.Fewer.{Fewer, fewer_self}
use Rattle.call_lists.proofs.Frames.{fewer_reclaimed, fewer_still, fewer_disconnect, fewer_join, fewer_leave, fewer_rate, fewer_decay}
use Rattle.call_lists.proofs.Frames.{fewer_subscribe, fewer_unsubscribe, fewer_prune, fewer_deliver}
use Rattle.gossip.specs.Notes.{Setup, Row, Gossip, Extended, no_store, note_in, store_in, has, stored, set_note, set_store, set_replies, forget}
use Rattle.gossip.specs.Notes.{count_in, ended}
use Rattle.gossip.specs.Valid.{SizedGossip, gossip_ok}
use Rattle.gossip.specs.Calls.{old}
use Rattle.gossip.specs.Step.{refused_all, parted, kept, besides, handed, extended, old_step}
use Rattle.gossip_lists.specs.Lists.{lives_old, gives_old}
use Rattle.gossip.proofs.NoteLaws.{store_after_note, setup_after_note, store_same, store_other, replies_after_store, setup_after_store}
use Rattle.gossip.proofs.NoteLaws.{store_after_replies, replies_after_replies, setup_after_replies, store_forget, stored_forget}
use Rattle.gossip.proofs.NoteLaws.{replies_forget, setup_forget, sized_note, sized_store, sized_replies, sized_forget}
use Rattle.gossip.proofs.RowLaws.{count_keep, count_ended_other}
use Rattle.gossip.proofs.RepliesOk.{replies_silent}
use Rattle.gossip.proofs.Fine.{fine_of}
use Rattle.gossip_lists.proofs.LifeLaws.{life_in}
use Rattle.gossip_lists.proofs.Stays.{Stay, stay_fewer, stay_graft, stay_heartbeat, departed_status}
use Rattle.gossip_lists.proofs.Tied.{Tied, alive_after, gave_after, masked, After, tie, stored_as, shown, plain}
use Rattle.gossip_lists.proofs.TiedNew.{tied_refused}

cond_same : {A : Type 0} (b : Bool) (a : A) → cond b a a ≡ a
cond_same true a = refl
cond_same false a = refl

module _ (most : ℕ) (alive gave : ℕ → ℕ → ℕ) (x : Extended) (h : Tied most alive gave x) where
  abbrev st : State
  st = x.base

  abbrev g : Gossip
  g = x.gossip

  abbrev Here : Call → Reply → Type 0
  Here c r = Sized r.state → After most alive gave (old c) (extended x c r)

  -- a call that does nothing besides, and connects nobody
  alone :
      (c : Call) (r : Reply) →
      cond (eqb (number_of r.answer) 0) (besides st c g) g ≡ g →
      ((t n : ℕ) → alive_after (old c) (number_of r.answer) alive t n ≡ alive t n) →
      ((peer n : ℕ) → gave_after (old c) (number_of r.answer) gave peer n ≡ gave peer n) →
      Stay st r.state →
      Here c r
  alone c r e lv gv stay size =
      plain most alive gave x h (old c) (extended x c r) size
      (rw e h.sizes)
      (ap (λ (u : Gossip). u.setup.replies) e)
      (λ t. ap (λ (u : Gossip). store_in u t) e)
      (ap (λ (u : Gossip). u.replies) e)
      stay
      (λ t n l. lv t n)
      gv

  refuses : (c : Call) (a : Answer) → eqb (number_of a) 0 ≡ false → Here c (refused a st)
  refuses c a e =
      alone c (refused a st) (rw e) (λ t n. rw e) (λ peer n. rw e) (stay_fewer st st (fewer_self st))

  ignores : (c : Call) (time : ℕ) → Here c (ignored st time)
  ignores c time =
      alone c (ignored st time) refl (λ t n. refl) (λ peer n. refl) (stay_fewer st _ (fewer_still st time))

  -- of the ten calls that say nothing of stores, replies and connections
  module _
      (c : Call)
      (e : besides st c g ≡ g)
      (lv : (t was : ℕ) → lives_old c t was ≡ was)
      (gv : (peer was : ℕ) → gives_old c peer was ≡ was)
    where
      quiet : (r : Reply) → Stay st r.state → Here c r
      quiet r stay =
          let b = eqb (number_of r.answer) 0 in
          alone c r
          (ap (λ (u : Gossip). cond b u g) e ∙ cond_same b g)
          (λ t n. ap (λ (k : ℕ). cond b k (alive t n)) (lv t (alive t n)) ∙ cond_same b (alive t n))
          (λ peer n. ap (λ (k : ℕ). cond b k (gave peer n)) (gv peer (gave peer n)) ∙ cond_same b (gave peer n))
          stay

      fewer : (r : Reply) → Fewer st r.state → Here c r
      fewer r f = quiet r (stay_fewer st r.state f)

      of_peer_lem : (id : ℕ) (f : ℕ → Reply) → ((s : ℕ) → Stay st (f s).state) → Here c (of_peer st id f)
      of_peer_lem id f k =
          by_peer (Here c) st id f (refuses c NotConnected refl) (λ s l on. quiet (f s) (k s))

  -- ---- disconnect: the slot is connected no more
  module _ (time id : ℕ) where
    abbrev dis : Call
    dis = disconnect time id

    gone_slot : (s : ℕ) → s < slot_count → (peer_in (set_clock (departed st s time) time) s).status ≡ 1 → ⊥
    gone_slot s l on =
        let a = ap (λ (p : Peer). p.status) (peer_after_clock (departed st s time) time s) in
        let b = departed_status st s time h.size l in
        omega arith

    -- slot s's note is emptied, and its replies end
    module _ (s : ℕ) (l : s < slot_count) where
      abbrev noted : Gossip
      noted = set_note g s (parted (note_in g s))

      abbrev parting : Gossip
      parting = set_replies noted (ended s g.replies)

      setup_left : parting.setup.replies ≡ g.setup.replies
      setup_left = ap (λ (p : Setup). p.replies) (setup_after_replies noted _ ∙ setup_after_note g s _)

      store_left : (t : ℕ) → store_in parting t ≡ store_in g t
      store_left t = store_after_replies noted _ t ∙ store_after_note g s _ t

      left :
          Sized (set_clock (departed st s time) time) →
          Tied most alive (masked alive gave) (record { base = set_clock (departed st s time) time; gossip = parting })
      left size =
          tie most (record { base = set_clock (departed st s time) time; gossip = parting }) alive gave size
          (sized_replies noted (sized_note g h.sizes s _) _)
          (setup_left ∙ h.bound)
          (λ t n k. ap (λ (w : List (List ℕ)). life_in 5 w n) (store_left t) ∙ h.lives t n k)
          (λ i n k up.
          by_test _ (eqb i s)
          (λ a. let q : i ≡ s = eqb-true i s a in absurd (gone_slot s l (rw q at up)))
          (λ a.
          let w = stay_fewer st _ (fewer_disconnect st time s) i up in
          ap (λ (w : List Row). count_in w n i) (replies_after_replies noted (ended s g.replies))
          ∙ count_ended_other s g.replies n i (eqb-false i s a)
          ∙ h.counts i n k w.0
          ∙ ap (λ (q : ℕ). gave q n) (sym w.1)
          ∙ shown most alive gave x h (stored parting n) _ n (λ e. sym (stored_as g parting n store_left) ∙ e)))
          h.few

    found : (r : Option ℕ) → find_connected st id ≡ r → Here dis (on_found r (λ s. done (departed st s time) time []) (refused NotConnected st))
    unfolding besides
    found (Some s) e = let q = connected_at st id s e in λ size. rw e (left s q.0 size)
    found None e = refuses dis NotConnected refl

    tied_disconnect : Here dis (of_peer st id (λ s. done (departed st s time) time []))
    tied_disconnect = found (find_connected st id) refl

  -- ---- leave: the topic's store is empty, and what is stored no more is forgotten
  module _ (time t : ℕ) (k : t < 8) where
    abbrev emptied : Gossip
    emptied = set_store g t no_store

    setup_leave : (forget emptied).setup.replies ≡ g.setup.replies
    setup_leave = ap (λ (p : Setup). p.replies) (setup_forget emptied ∙ setup_after_store g t no_store)

    life_empty : (n : ℕ) → life_in 5 no_store n ≡ 0
    unfolding life_in has
    life_empty n = refl

    leaves : (r : Reply) → number_of r.answer ≡ 0 → Stay st r.state → Here (leave time t) r
    unfolding besides
    leaves r z stay size =
        rw z
        (tie most (record { base = r.state; gossip = forget emptied }) (λ u n. cond (eqb t u) 0 (alive u n)) gave size
        (sized_forget emptied (sized_store g h.sizes t no_store k refl))
        (setup_leave ∙ h.bound)
        (λ u n l.
        ap (λ (w : List (List ℕ)). life_in 5 w n) (store_forget emptied u)
        ∙ by_test _ (eqb t u)
        (λ a.
        let q : t ≡ u = eqb-true t u a in
        rw (a, ← q)
        (ap (λ (w : List (List ℕ)). life_in 5 w n) (store_same g t no_store (let y = h.sizes.stores in omega arith)) ∙ life_empty n))
        (λ a.
        rw a
        (ap (λ (w : List (List ℕ)). life_in 5 w n) (store_other g t no_store u (λ (q : u ≡ t). eqb-false t u a (sym q)))
        ∙ h.lives u n l)))
        (λ s n l on.
        let w = stay s on in
        let f = stored emptied in
        ap (λ (l : List Row). count_in l n s) (replies_forget emptied)
        ∙ count_keep f emptied.replies n s
        ∙ ap (λ (l : List Row). cond (f n) (count_in l n s) 0) (replies_after_store g t no_store)
        ∙ ap (λ (q : ℕ). cond (f n) q 0) (h.counts s n l w.0 ∙ ap (λ (i : ℕ). gave i n) (sym w.1))
        ∙ ap (λ (b : Bool). cond b (gave (peer_in r.state s).id n) 0) (sym (stored_forget emptied n)))
        h.few)

    tied_leave : Here (leave time t) (leave_reply st time t)
    unfolding leave_reply
    tied_leave =
        by_test _ (is_joined st t)
        (λ j. leaves (leave_reply st time t) (rw j) (stay_fewer st _ (fewer_leave st time t)))
        (λ j. rw j (ignores (leave time t) time))

  -- ---- connect: the slot was connected to nobody, and so has no replies
  module _ (time id : ℕ) (groups : List ℕ) (flags : ℕ) (name : List ℕ) (ok : gossip_ok st g ≡ true) where
    abbrev con : Call
    con = connect time id groups flags name

    abbrev base : State
    base = reclaimed st time

    abbrev after : Gossip
    after = record { setup = g.setup; notes = by_slot slot_count (kept st time g); stores = g.stores; replies = g.replies }

    store_after : (t : ℕ) → store_in after t ≡ store_in g t
    unfolding store_in
    store_after t = refl

    sizes_after : SizedGossip after
    sizes_after =
        record {
          notes = slots_length slot_count (kept st time g);
          stores = h.sizes.stores;
          windows = λ t. ap length (store_after t) ∙ h.sizes.windows t;
        }

    -- who is not connected once the reclaimable records are emptied has no replies
    none_replied : (s n : ℕ) → s < slot_count → ((peer_in base s).status ≡ 1 → ⊥) → count_in g.replies n s ≡ 0
    none_replied s n l off =
        replies_silent st g.setup.replies (stored g) g.replies (fine_of st g ok).replies s l
        (λ on.
        let same = reclaimed_stays st time h.size s l (reclaimable_connected (peer_in st s) time (eq-eqb (peer_in st s).status 1 on)) in
        off (ap (λ (p : Peer). p.status) same ∙ on))
        n

    module _ (none : find_connected st id ≡ None) (version s : ℕ) (l : s < slot_count) (off : (peer_in base s).status ≡ 1 → ⊥) where
      abbrev p : Peer
      p = connected_as (peer_in base s) id (groups_of groups) flags version

      abbrev u : State
      u = set_clock (set_peer base s p) time

      abbrev now : ℕ → ℕ → ℕ
      now peer n = cond (eqb id peer) 0 (gave peer n)

      own : (peer_in u s).id ≡ id
      unfolding connected_as
      own =
          ap (λ (q : Peer). q.id)
          (peer_after_clock (set_peer base s p) time s
          ∙ peer_same base s p (let z = (sized_reclaimed st time h.size).peers in omega arith))

      counts_after :
          (i n : ℕ) →
          i < slot_count →
          (peer_in u i).status ≡ 1 →
          count_in g.replies n i ≡ cond (stored after n) (now (peer_in u i).id n) 0
      counts_after i n k up =
          by_test _ (eqb i s)
          (λ a.
          let q : i ≡ s = eqb-true i s a in
          rw (q, own, none_replied s n l off, eq-eqb id id refl) (sym (cond_same (stored after n) 0)))
          (λ a.
          let same : peer_in u i ≡ peer_in base i =
          peer_after_clock (set_peer base s p) time i ∙ peer_other base s p i (eqb-false i s a) in
          let w = (fewer_reclaimed st time).peer i (ap (λ (q : Peer). q.status) (sym same) ∙ up) in
          let name : (peer_in u i).id ≡ (peer_in st i).id = ap (λ (q : Peer). q.id) same ∙ w.id in
          let d : eqb id (peer_in st i).id ≡ false =
          ne_eqb id (peer_in st i).id (λ (r : id ≡ (peer_in st i).id). none_connected st id none i k w.status (sym r)) in
          rw (name, d)
          (h.counts i n k w.status
          ∙ shown most alive gave x h (stored after n) (peer_in st i).id n (λ z. sym (stored_as g after n store_after) ∙ z)))

      taken : Here con (connect_at base time id (groups_of groups) flags version s)
      unfolding connect_at besides
      taken size =
          tie most (record { base = u; gossip = after }) alive now size sizes_after h.bound
          (λ t n k. ap (λ (w : List (List ℕ)). life_in 5 w n) (store_after t) ∙ h.lives t n k)
          counts_after
          (λ peer n.
          cond_case (λ (q : ℕ). q ≤ most) (eqb id peer) 0 (gave peer n) (λ e. omega arith) (λ e. h.few peer n))

    tied_connect : Here con (connect_reply st time id (groups_of groups) flags name)
    tied_connect =
        by_connect (Here con) st time id (groups_of groups) flags name
        (λ n. refuses con UnknownProtocol refl)
        (λ v s n c. refuses con AlreadyConnected refl)
        (λ v s n c r. let q = retained_at base id s r in taken c v s q.0 (λ z. omega arith))
        (λ v s n c r e. let q = empty_at base s e in taken c v s q.0 (λ z. omega arith))
        (λ v n c r e. refuses con NoSlot refl)

  -- ---- each
  tied_call : (c : Call) → not (handed c) || gossip_ok st g ≡ true → arguments_ok c ≡ true → Here c (effect st c)
  unfolding effect besides
  tied_call (connect time id groups flags name) ok a = tied_connect time id groups flags name ok
  tied_call (disconnect time id) ok a = tied_disconnect time id
  tied_call (join time t) ok a =
      fewer (join time t) refl (λ t was. refl) (λ peer was. refl) (join_reply st time t) (fewer_join st time t)
  tied_call (leave time t) ok a = tied_leave time t (topic_in_lem t a)
  tied_call (subscribe time id t) ok a =
      of_peer_lem (subscribe time id t) refl (λ t was. refl) (λ peer was. refl) id _ (λ s. stay_fewer st _ (fewer_subscribe st time t s))
  tied_call (unsubscribe time id t) ok a =
      of_peer_lem (unsubscribe time id t) refl (λ t was. refl) (λ peer was. refl) id _ (λ s.
      stay_fewer st _ (fewer_unsubscribe st time t s))
  tied_call (graft time id t) ok a =
      of_peer_lem (graft time id t) refl (λ t was. refl) (λ peer was. refl) id _ (λ s. stay_graft st time t s)
  tied_call (prune time id t seconds) ok a =
      of_peer_lem (prune time id t seconds) refl (λ t was. refl) (λ peer was. refl) id _ (λ s.
      stay_fewer st _ (fewer_prune st time t s seconds))
  tied_call (deliver time id t kind) ok a =
      of_peer_lem (deliver time id t kind) refl (λ t was. refl) (λ peer was. refl) id _ (λ s.
      stay_fewer st _ (fewer_deliver st time t s kind))
  tied_call (rate time id p5) ok a =
      of_peer_lem (rate time id p5) refl (λ t was. refl) (λ peer was. refl) id _ (λ s. stay_fewer st _ (fewer_rate st time p5 s))
  tied_call (heartbeat time t ask order) ok a =
      quiet (heartbeat time t ask order) refl (λ t was. refl) (λ peer was. refl) (heartbeat_reply st time t ask order)
      (stay_heartbeat st time t ask order)
  tied_call (decay time) ok a =
      fewer (decay time) refl (λ t was. refl) (λ peer was. refl) (decay_reply st time) (fewer_decay st time)
  tied_call (score time id) ok a =
      of_peer_lem (score time id) refl (λ t was. refl) (λ peer was. refl) id _ (λ s. stay_fewer st _ (fewer_still st time))

  pub tied_old : (c : Call) (room : ℕ) → After most alive gave (old c) (old_step x c room)
  unfolding old_step
  tied_old c room =
      cond_case (After most alive gave (old c)) (not (handed c) || gossip_ok st g) (extended x c (step st c room)) (refused_all 12 x)
      (λ ok.
      by_gate (Here c) st c room (refuses c) (λ p. tied_call c ok (arguments c p.ranges)) (keeps_sizes st c room h.size))
      (λ bad. tied_refused most alive gave x h (old c) 12 refl)
