-- The eight new calls keep the invariant of the reply bound.
-- Assumes nothing.
use Prim.Native.Nat.{ℕ, suc, ◌-◌, ◌<◌, ◌≤◌}
use native.Mathlib.Omega.{arith}
use mathlib.Core.Path.{◌≡◌, refl, sym, ap, ◌∙◌}
use mathlib.Core.Bool.{true, false, cond, not, ◌&&◌, and-false}
use mathlib.Core.List.{List, []}
use lib.Dec.{eqb, ltb}
use borrow.Author.Tests.{eqb-true, eqb-false, eq-eqb, ne_eqb, ltb-true, lt-ltb}
use Rattle.index.proofs.Index.{both}
use Rattle.index.proofs.Flags.{by_test, cond_case}
use Rattle.records.specs.Records.{State, slot_count, peer_in, set_clock}
use Rattle.layout.proofs.StateLaws.{sized_clock}
use Rattle.validity.proofs.ValidLaws.{valid_facts}
use Rattle.validity.proofs.Keeps.{ids_apart}
use Rattle.sets.specs.Sets.{is_permutation}
use Rattle.rules.specs.Calls.{topic_ok, time_ok}
use Rattle.rules.proofs.CaseLaws.{topic_in_lem}
use Rattle.call_lists.proofs.Fewer.{fewer_self}
use Rattle.call_lists.proofs.Frames.{fewer_still}
use Rattle.gossip.specs.Notes.{Setup, Note, Row, Gossip, Extended, window_most, note_in, store_in, holds, stored_in, stored, set_note, set_store}
use Rattle.gossip.specs.Notes.{set_replies, count_in, replied, added}
use Rattle.gossip.specs.Valid.{SizedGossip, gossip_ok}
use Rattle.gossip.specs.Calls.{New, ask_all, idontwant, relay, beat, store, announce, ihave, iwant, Any, new, new_in_range}
use Rattle.gossip.specs.Step.{FullReply, refused_all, at, ignored_all, done_all, has_room, with_put, is_heeded, ask_reply, idontwant_reply}
use Rattle.gossip.specs.Step.{relay_reply, beat_of, running, store_reply, announce_reply, under_gossip, is_answered, with_ihave, ihave_reply}
use Rattle.gossip.specs.Step.{is_served, iwant_reply, new_effect, new_step}
use Rattle.gossip.proofs.NoteLaws.{store_after_note, replies_after_note, setup_after_note, store_same, store_other, replies_after_store}
use Rattle.gossip.proofs.NoteLaws.{setup_after_store, store_after_replies, stored_after_replies, replies_after_replies}
use Rattle.gossip.proofs.NoteLaws.{setup_after_replies, store_beat, replies_beat, setup_beat, sized_note, sized_store, sized_replies}
use Rattle.gossip.proofs.NoteLaws.{sized_beat, added_length}
use Rattle.gossip.proofs.StoredLaws.{some_more}
use Rattle.gossip.proofs.RowLaws.{count_keep, count_replied}
use Rattle.gossip.proofs.RepliesOk.{replies_parts, replies_sized}
use Rattle.gossip.proofs.Fine.{fine_of}
use Rattle.gossip_lists.proofs.LifeLaws.{life_in, life_stored, life_moved, life_added}
use Rattle.gossip.proofs.Cases.{PassedNew, by_first, by_slot_lem, by_sender, by_joined}
use Rattle.gossip_lists.proofs.Stays.{Stay, stay_fewer}
use Rattle.gossip_lists.proofs.Tied.{Tied, alive_after, gave_after, After, tie, shown, plain}

pub still : (st : State) (time : ℕ) → Stay st (set_clock st time)
still st time = stay_fewer st (set_clock st time) (fewer_still st time)

module _ (most : ℕ) (alive gave : ℕ → ℕ → ℕ) (x : Extended) (h : Tied most alive gave x) where
  abbrev Here : Any → FullReply → Type 0
  Here c r = After most alive gave c r

  pub tied_refused : (c : Any) (a : ℕ) → eqb a 0 ≡ false → Here c (refused_all a x)
  tied_refused c a e =
      plain most alive gave x h c (refused_all a x) h.size h.sizes refl (λ t. refl) refl
      (stay_fewer x.base x.base (fewer_self x.base))
      (λ t n l. rw e)
      (λ peer n. rw e)

  -- only the clock moves
  quiet :
      (c : Any) (time a : ℕ) →
      ((t n : ℕ) → t < 8 → alive_after c a alive t n ≡ alive t n) →
      ((peer n : ℕ) → gave_after c a gave peer n ≡ gave peer n) →
      Here c (record { answer = a; state = at x time x.gossip; actions = []; numbers = [] })
  quiet c time a lv gv =
      plain most alive gave x h c (record { answer = a; state = at x time x.gossip; actions = []; numbers = [] })
      (sized_clock x.base h.size time)
      h.sizes
      refl
      (λ t. refl)
      refl
      (still x.base time)
      lv
      gv

  -- 11
  out : (c : Any) (time : ℕ) → Here c (ignored_all x time)
  out c time = quiet c time 11 (λ t n l. refl) (λ peer n. refl)

  -- a note changes
  noted :
      (c : Any) (time s : ℕ) (p : Note) →
      ((t n : ℕ) → t < 8 → alive_after c 0 alive t n ≡ alive t n) →
      ((peer n : ℕ) → gave_after c 0 gave peer n ≡ gave peer n) →
      Here c (done_all x time (set_note x.gossip s p) [] [])
  noted c time s p lv gv =
      plain most alive gave x h c (done_all x time (set_note x.gossip s p) [] [])
      (sized_clock x.base h.size time)
      (sized_note x.gossip h.sizes s p)
      (ap (λ (q : Setup). q.replies) (setup_after_note x.gossip s p))
      (store_after_note x.gossip s p)
      (replies_after_note x.gossip s p)
      (still x.base time)
      lv
      gv

  -- ---- order 6, and the announcing
  tied_ask : (time t sender n : ℕ) → Here (new (ask_all time t sender n)) (ask_reply x time t sender)
  unfolding ask_reply
  tied_ask time t sender n =
      let c = new (ask_all time t sender n) in
      by_sender (Here c) x (tied_refused c) sender _ (by_joined (Here c) x (tied_refused c) time t _ (out c time) (λ j.
      quiet c time 0 (λ t n l. refl) (λ peer n. refl)))

  tied_relay : (time t sender n : ℕ) → Here (new (relay time t sender n)) (relay_reply x time t sender n)
  unfolding relay_reply
  tied_relay time t sender n =
      let c = new (relay time t sender n) in
      by_sender (Here c) x (tied_refused c) sender _ (by_joined (Here c) x (tied_refused c) time t _ (out c time) (λ j.
      quiet c time 0 (λ t n l. refl) (λ peer n. refl)))

  tied_idontwant : (time id n s : ℕ) → Here (new (idontwant time id n)) (idontwant_reply x time n s)
  unfolding idontwant_reply
  tied_idontwant time id n s =
      let c = new (idontwant time id n) in
      cond_case (Here c) (is_heeded x.base s) _ (ignored_all x time)
      (λ e.
      cond_case (Here c) (holds (note_in x.gossip s) n) (done_all x time x.gossip [] []) _
      (λ k. quiet c time 0 (λ t n l. refl) (λ peer n. refl))
      (λ k.
      cond_case (Here c) (has_room x.gossip.setup (note_in x.gossip s)) _ (ignored_all x time)
      (λ r. noted c time s (with_put n (note_in x.gossip s)) (λ t n l. refl) (λ peer n. refl))
      (λ r. out c time)))
      (λ e. out c time)

  tied_announce :
      (time t : ℕ) (order : List ℕ) (list : ℕ) → Here (new (announce time t order list)) (announce_reply x time t order)
  unfolding announce_reply
  tied_announce time t order list =
      let c = new (announce time t order list) in
      cond_case (Here c) (is_permutation slot_count order) _ (refused_all 7 x)
      (λ e.
      by_joined (Here c) x (tied_refused c) time t _ (out c time) (λ j.
      quiet c time 0 (λ t n l. refl) (λ peer n. refl)))
      (λ e. tied_refused c 7 refl)

  tied_ihave :
      (time id t : ℕ) (numbers : List ℕ) (list s : ℕ) →
      Here (new (ihave time id t numbers list)) (ihave_reply x time t numbers s)
  unfolding ihave_reply
  tied_ihave time id t numbers list s =
      let c = new (ihave time id t numbers list) in
      cond_case (Here c) (is_answered x t s) _ (ignored_all x time)
      (λ r. noted c time s (with_ihave (note_in x.gossip s)) (λ t n l. refl) (λ peer n. refl))
      (λ r. out c time)

  -- ---- a heartbeat: every life is one less, and what is gone is forgotten
  tied_beat : (time : ℕ) → Here (new (beat time)) (done_all x time (beat_of x.gossip) [] [])
  tied_beat time =
      tie most (at x time (beat_of x.gossip)) _ gave
      (sized_clock x.base h.size time)
      (sized_beat x.gossip h.sizes)
      (ap (λ (p : Setup). p.replies) (setup_beat x.gossip) ∙ h.bound)
      (λ t n l.
      ap (λ (w : List (List ℕ)). life_in 5 w n) (store_beat x.gossip t)
      ∙ life_moved (store_in x.gossip t) n (let z = h.sizes.windows t in omega arith)
      ∙ ap (λ (k : ℕ). k - 1) (h.lives t n l))
      (λ s n l on.
      let w = still x.base time s on in
      let f = stored (beat_of x.gossip) in
      ap (λ (l : List Row). count_in l n s) (replies_beat x.gossip)
      ∙ count_keep f x.gossip.replies n s
      ∙ ap (λ (k : ℕ). cond (f n) k 0) (h.counts s n l w.0 ∙ ap (λ (i : ℕ). gave i n) (sym w.1)))
      h.few

  -- ---- store
  module _ (time u m : ℕ) (k : u < 8) where
    abbrev c : Any
    c = new (store time u m)

    -- "one already there changes nothing"
    already : stored_in (store_in x.gossip u) m ≡ true → (t n : ℕ) → t < 8 → alive_after c 0 alive t n ≡ alive t n
    already e t n l =
        by_test _ (eqb u t)
        (λ a.
        by_test _ (eqb m n)
        (λ b.
        let i : u ≡ t = eqb-true u t a in
        let j : m ≡ n = eqb-true m n b in
        let z : 0 < alive t n =
        ltb-true 0 (alive t n)
        (ap (λ (q : ℕ). ltb 0 q) (sym (h.lives t n l))
        ∙ life_stored 5 (store_in x.gossip t) n (let z = h.sizes.windows t in omega arith)
        ∙ (rw (i, j) at e)) in
        let y : eqb (alive t n) 0 ≡ false = ne_eqb (alive t n) 0 (λ (q : alive t n ≡ 0). omega arith) in
        rw (a, b, y))
        (λ b. rw (a, b)))
        (λ a. rw a)

    module _ (e : stored_in (store_in x.gossip u) m ≡ false) where
      abbrev g : Gossip
      g = set_store x.gossip u (added m (store_in x.gossip u))

      sizes : SizedGossip g
      sizes =
          sized_store x.gossip h.sizes u _ k (added_length m (store_in x.gossip u) ∙ h.sizes.windows u)

      lives_added : (t n : ℕ) → t < 8 → life_in 5 (store_in g t) n ≡ alive_after c 0 alive t n
      lives_added t n l =
          by_test _ (eqb u t)
          (λ a.
          let i : u ≡ t = eqb-true u t a in
          let v = h.lives t n l in
          rw (a, ← i)
          (ap (λ (w : List (List ℕ)). life_in 5 w n) (store_same x.gossip u _ (let z = h.sizes.stores in omega arith))
          ∙ life_added (store_in x.gossip u) n m (h.sizes.windows u) e
          ∙ ap (λ (q : ℕ). cond (eqb m n && eqb q 0) 5 q) (h.lives u n k)))
          (λ a.
          rw a
          (ap (λ (w : List (List ℕ)). life_in 5 w n)
          (store_other x.gossip u _ t (λ (q : t ≡ u). eqb-false u t a (sym q)))
          ∙ h.lives t n l))

      -- what was stored is stored
      more : (n : ℕ) → stored g n ≡ false → stored x.gossip n ≡ false
      unfolding stored
      more n =
          some_more 8 (λ t. stored_in (store_in x.gossip t) n) (λ t. stored_in (store_in g t) n) (λ t l s.
          let a : 0 < life_in 5 (store_in x.gossip t) n =
          ltb-true 0 _ (life_stored 5 (store_in x.gossip t) n (let z = h.sizes.windows t in omega arith) ∙ s) in
          let b = h.lives t n l in
          let d : 0 < life_in 5 (store_in g t) n =
          rw (lives_added t n l)
          (cond_case (λ (q : ℕ). 0 < q) (eqb u t && (eqb m n && eqb (alive t n) 0)) 5 (alive t n) (λ y. omega arith) (λ y. omega arith)) in
          sym (life_stored 5 (store_in g t) n (let z = sizes.windows t in omega arith)) ∙ lt-ltb 0 _ d)

      tied_added : Here c (done_all x time g [] [])
      tied_added =
          tie most (at x time g) _ gave
          (sized_clock x.base h.size time)
          sizes
          (ap (λ (p : Setup). p.replies) (setup_after_store x.gossip u _) ∙ h.bound)
          lives_added
          (λ s n l on.
          let w = still x.base time s on in
          ap (λ (l : List Row). count_in l n s) (replies_after_store x.gossip u _)
          ∙ h.counts s n l w.0
          ∙ ap (λ (i : ℕ). gave i n) (sym w.1)
          ∙ shown most alive gave x h (stored g n) (peer_in (set_clock x.base time) s).id n (more n))
          h.few

    tied_store : Here c (store_reply x time u m)
    unfolding store_reply
    tied_store =
        by_joined (Here c) x (tied_refused c) time u _ (out c time) (λ j.
        cond_case (Here c) (stored_in (store_in x.gossip u) m) (done_all x time x.gossip [] []) _
        (λ e. quiet c time 0 (already e) (λ peer n. refl))
        (λ e.
        cond_case (Here c) (ltb (running (store_in x.gossip u)) window_most) _ (refused_all 13 x)
        (λ r. tied_added e)
        (λ r. tied_refused c 13 refl)))

  -- ---- IWANT
  module _
      (time id m s : ℕ)
      (ok : gossip_ok x.base x.gossip ≡ true)
      (l : s < slot_count)
      (on : (peer_in x.base s).status ≡ 1)
      (own : (peer_in x.base s).id ≡ id)
      (only : (i : ℕ) → i < slot_count → (peer_in x.base i).id ≡ id → i ≡ s)
    where
      abbrev want : Any
      want = new (iwant time id m)

      abbrev rows : List Row
      rows = x.gossip.replies

      abbrev after : Gossip
      after = set_replies x.gossip (replied m s rows)

      abbrev now : ℕ → ℕ → ℕ
      now = gave_after want 0 gave

      -- one more of number m for slot s alone
      count_after :
          (i n : ℕ) →
          count_in after.replies n i ≡ cond (eqb m n && eqb i s) (suc (count_in rows n i)) (count_in rows n i)
      count_after i n =
          let f = (fine_of x.base x.gossip ok).replies in
          let most = x.gossip.setup.replies in
          let q = replies_parts x.base most (stored x.gossip) rows f in
          ap (λ (w : List Row). count_in w n i) (replies_after_replies x.gossip (replied m s rows))
          ∙ count_replied m s l rows q.1 (replies_sized x.base most (stored x.gossip) rows f) n i

      module _ (e : is_served x m s ≡ true) where
        parts : (stored x.gossip m ≡ true) × (count_in rows m s < most)
        unfolding is_served
        parts =
            let q = both (not (under_gossip x.base s)) _ e in
            let r = both (stored x.gossip m) (ltb (count_in rows m s) x.gossip.setup.replies) q.1 in
            let z = ltb-true (count_in rows m s) x.gossip.setup.replies r.1 in
            let b = h.bound in
            (r.0, omega arith)

        few_after : (peer n : ℕ) → now peer n ≤ most
        few_after peer n =
            by_test _ (eqb id peer)
            (λ a.
            by_test _ (eqb m n)
            (λ b.
            let i : id ≡ peer = eqb-true id peer a in
            let j : m ≡ n = eqb-true m n b in
            let v : count_in rows m s ≡ gave peer n =
            h.counts s m l on ∙ ap (λ (q : ℕ). gave q m) (own ∙ i) ∙ ap (gave peer) j in
            let z = parts.1 in
            rw (a, b) (omega arith))
            (λ b. rw (a, b) (h.few peer n)))
            (λ a. rw a (h.few peer n))

        -- the peer's own count
        mine : (n : ℕ) → count_in after.replies n s ≡ cond (stored x.gossip n) (now id n) 0
        mine n =
            let v : count_in rows n s ≡ gave id n = h.counts s n l on ∙ ap (λ (q : ℕ). gave q n) own in
            count_after s n
            ∙ by_test _ (eqb m n)
            (λ b.
            let j : m ≡ n = eqb-true m n b in
            let y : stored x.gossip n ≡ true = ap (stored x.gossip) (sym j) ∙ parts.0 in
            rw (b, y, eq-eqb id id refl, eq-eqb s s refl) (omega arith))
            (λ b. rw (b, eq-eqb id id refl) (v ∙ shown most alive gave x h (stored x.gossip n) id n (λ e. e)))

        counts_after :
            (i n : ℕ) →
            i < slot_count →
            (peer_in (set_clock x.base time) i).status ≡ 1 →
            count_in after.replies n i ≡ cond (stored after n) (now (peer_in (set_clock x.base time) i).id n) 0
        counts_after i n k up =
            let w = still x.base time i up in
            rw (w.1, stored_after_replies x.gossip (replied m s rows) n)
            (by_test _ (eqb i s)
            (λ a.
            let q : i ≡ s = eqb-true i s a in
            rw (q, own) (mine n))
            (λ a.
            let d : eqb id (peer_in x.base i).id ≡ false =
            ne_eqb id (peer_in x.base i).id (λ (r : id ≡ (peer_in x.base i).id). eqb-false i s a (only i k (sym r))) in
            rw d
            (count_after i n
            ∙ rw (a, and-false (eqb m n))
            (h.counts i n k w.0 ∙ shown most alive gave x h (stored x.gossip n) (peer_in x.base i).id n (λ e. e)))))

        served : Here want (done_all x time after [] [])
        served =
            tie most (at x time after) _ now
            (sized_clock x.base h.size time)
            (sized_replies x.gossip h.sizes _)
            (ap (λ (p : Setup). p.replies) (setup_after_replies x.gossip _) ∙ h.bound)
            (λ t n l. ap (λ (w : List (List ℕ)). life_in 5 w n) (store_after_replies x.gossip _ t) ∙ h.lives t n l)
            counts_after
            few_after

      tied_iwant : Here want (iwant_reply x time m s)
      unfolding iwant_reply
      tied_iwant = cond_case (Here want) (is_served x m s) _ (ignored_all x time) (λ e. served e) (λ e. out want time)

  -- ---- each
  tied_effect : (c : New) → PassedNew x c → Here (new c) (new_effect x c)
  unfolding new_effect new_in_range
  tied_effect (ask_all time t sender n) p = tied_ask time t sender n
  tied_effect (idontwant time id n) p =
      by_slot_lem (Here (new (idontwant time id n))) x (tied_refused (new (idontwant time id n))) id _ (λ s l on i. tied_idontwant time id n s)
  tied_effect (relay time t sender n) p = tied_relay time t sender n
  tied_effect (beat time) p = tied_beat time
  tied_effect (store time t n) p =
      tied_store time t n (topic_in_lem t (both (time_ok time) (topic_ok t) p.ranges).1)
  tied_effect (announce time t order list) p = tied_announce time t order list
  tied_effect (ihave time id t numbers list) p =
      by_slot_lem (Here (new (ihave time id t numbers list))) x (tied_refused (new (ihave time id t numbers list))) id _ (λ s l on i.
      tied_ihave time id t numbers list s)
  tied_effect (iwant time id n) p =
      by_slot_lem (Here (new (iwant time id n))) x (tied_refused (new (iwant time id n))) id _ (λ s l on i.
      tied_iwant time id n s p.gossip l on i (λ k b e.
      by_test _ (eqb k s) (eqb-true k s) (λ a.
      let f = valid_facts x.base p.router in
      let z : (peer_in x.base s).id ≡ 0 = ids_apart x.base f s k l b (eqb-false k s a) (e ∙ sym i) in
      let u : 1 ≤ (peer_in x.base s).id = (f.peer s l).used (λ z. omega arith) in
      absurd (omega arith))))

  pub tied_new : (c : New) (room : ℕ) → Here (new c) (new_step x c room)
  tied_new c room = by_first (Here (new c)) x (tied_refused (new c)) c room (tied_effect c)
