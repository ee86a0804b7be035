-- What each call leaves of the new parts is within test 12's bounds, if what it was given was: the new calls whatever they answer, and what
-- 01's calls do besides.
-- Assumes nothing.
use Rattle.std.proofs.Common.{Some}
use Prim.Native.Nat.{ℕ, ◌<◌}
use mathlib.Core.Path.{◌≡◌, refl, ap, ◌∙◌}
use mathlib.Core.Bool.{Bool, true, false, cond, not, ◌&&◌}
use mathlib.Core.List.{List, []}
use lib.Dec.{eqb, ltb}
use lib.ListN.{length}
use borrow.Author.Tests.{eqb-true, eqb-false, eq-eqb, ltb-true}
use Rattle.index.proofs.Index.{both}
use Rattle.index.proofs.Flags.{by_test, cond_case}
use Rattle.records.specs.Records.{State, slot_count, topic_count, no_peer, peer_in}
use Rattle.effects.specs.Effects.{is_joined, reclaimable}
use Rattle.sets.specs.Sets.{is_permutation}
use Rattle.sets.proofs.SlotLaws.{slots_length, slots_at}
use Rattle.rules.specs.Calls.{connect, leave, time_ok}
use Rattle.rules.proofs.CaseLaws.{topic_in_lem}
use Rattle.gossip.specs.Notes.{Note, Gossip, Extended, window_most, no_note, no_store, note_in, store_in, holds, stored_in, stored}
use Rattle.gossip.specs.Notes.{set_note}
use Rattle.gossip.specs.Notes.{set_store, added, count_in}
use Rattle.gossip.specs.Valid.{SizedGossip, note_ok, store_ok}
use Rattle.gossip.specs.Calls.{New, ask_all, idontwant, relay, beat, store, announce, ihave, iwant, time_of_new, new_arguments_ok}
use Rattle.gossip.specs.Calls.{new_in_range}
use Rattle.gossip.specs.Step.{FullReply, refused_all, ignored_all, done_all, has_room, with_put, is_heeded, ask_reply, idontwant_reply}
use Rattle.gossip.specs.Step.{relay_reply, running, store_reply, announce_reply, under_gossip, is_answered, with_ihave, ihave_reply}
use Rattle.gossip.specs.Step.{is_served, iwant_reply, new_effect, parted, kept, on_found_note, besides}
use Rattle.gossip.proofs.NoteLaws.{sized_note, sized_store, sized_replies, sized_forget, sized_beat, added_length}
use Rattle.gossip.proofs.NoteOk.{note_none, note_peer, note_connected, note_parted, note_put, note_ihave, store_added}
use Rattle.gossip.proofs.RepliesOk.{Remain, replies_remain}
use Rattle.gossip.proofs.Fine.{Fine}
use Rattle.gossip.proofs.FineLaws.{fine_by, fine_note, fine_ended, fine_store, fine_reply, added_more, fine_beat, fine_leave}
use Rattle.gossip.proofs.Cases.{PassedNew, by_slot_lem, by_sender, by_joined}

pub record Sound (st : State) (g : Gossip) : Type 0 where
  pub sizes : SizedGossip g
  pub fine : Fine st g

-- ---- the new calls
module _ (x : Extended) (w : Sound x.base x.gossip) where
  abbrev st : State
  st = x.base

  abbrev g : Gossip
  g = x.gossip

  abbrev Kept : FullReply → Type 0
  Kept r = Sound st r.state.gossip

  refuses : (a : ℕ) → eqb a 0 ≡ false → Kept (refused_all a x)
  refuses a e = w

  noted : (s : ℕ) (n : Note) → s < slot_count → note_ok g.setup (peer_in st s) n ≡ true → Sound st (set_note g s n)
  noted s n l ok =
      record {
        sizes = sized_note g w.sizes s n;
        fine = fine_note st st g w.fine w.sizes s l (λ t. refl) (λ i k d. refl) n ok (λ i k on. on);
      }

  pub sound_idontwant : (time n s : ℕ) → s < slot_count → (peer_in st s).status ≡ 1 → Kept (idontwant_reply x time n s)
  unfolding idontwant_reply
  sound_idontwant time n s l on =
      cond_case Kept (is_heeded st s) _ (ignored_all x time)
      (λ e.
      cond_case Kept (holds (note_in g s) n) (done_all x time g [] []) _ (λ k. w) (λ k.
      cond_case Kept (has_room g.setup (note_in g s)) _ (ignored_all x time)
      (λ r.
      noted s (with_put n (note_in g s)) l (note_put g.setup (peer_in st s) (note_in g s) (w.fine.note s l) on n k r))
      (λ r. w)))
      (λ e. w)

  pub sound_store : (time t n : ℕ) → t < topic_count → Kept (store_reply x time t n)
  unfolding store_reply
  sound_store time t n k =
      let s = store_in g t in
      by_joined Kept x refuses time t _ w (λ j.
      cond_case Kept (stored_in s n) (done_all x time g [] []) _ (λ e. w) (λ e.
      cond_case Kept (ltb (running s) window_most) _ (refused_all 13 x)
      (λ r.
      record {
        sizes = sized_store g w.sizes t (added n s) k (added_length n s ∙ w.sizes.windows t);
        fine =
            fine_store st g w.fine w.sizes t k (added n s) (added_more n s)
            (store_added (is_joined st t) s (w.fine.store t k) n j e r);
      })
      (λ r. w)))

  room_ihave : (t s : ℕ) → is_answered x t s ≡ true → ltb (note_in g s).ihaves g.setup.ihaves ≡ true
  unfolding is_answered
  room_ihave t s e =
      let q = both (is_joined st t) (not (under_gossip st s) && ltb (note_in g s).ihaves g.setup.ihaves) e in
      (both (not (under_gossip st s)) (ltb (note_in g s).ihaves g.setup.ihaves) q.1).1

  pub sound_ihave : (time t : ℕ) (numbers : List ℕ) (s : ℕ) → s < slot_count → (peer_in st s).status ≡ 1 → Kept (ihave_reply x time t numbers s)
  unfolding ihave_reply
  sound_ihave time t numbers s l on =
      cond_case Kept (is_answered x t s) _ (ignored_all x time)
      (λ e.
      noted s (with_ihave (note_in g s)) l
      (note_ihave g.setup (peer_in st s) (note_in g s) (w.fine.note s l) on (room_ihave t s e)))
      (λ e. w)

  pub room_iwant : (n s : ℕ) → is_served x n s ≡ true → (stored g n ≡ true) × (count_in g.replies n s < g.setup.replies)
  unfolding is_served
  room_iwant n s e =
      let q = both (not (under_gossip st s)) (stored g n && ltb (count_in g.replies n s) g.setup.replies) e in
      let r = both (stored g n) (ltb (count_in g.replies n s) g.setup.replies) q.1 in
      (r.0, ltb-true (count_in g.replies n s) g.setup.replies r.1)

  pub sound_iwant : (time n s : ℕ) → s < slot_count → (peer_in st s).status ≡ 1 → Kept (iwant_reply x time n s)
  unfolding iwant_reply
  sound_iwant time n s l on =
      cond_case Kept (is_served x n s) _ (ignored_all x time)
      (λ e.
      let q = room_iwant n s e in
      record {
        sizes = sized_replies g w.sizes _;
        fine = fine_reply st g w.fine w.sizes n s l (eq-eqb (peer_in st s).status 1 on) q.0 q.1;
      })
      (λ e. w)

  right : (c : New) → PassedNew x c → new_arguments_ok c ≡ true
  unfolding new_in_range
  right c p = (both (time_ok (time_of_new c)) (new_arguments_ok c) p.ranges).1

  pub sound_effect : (c : New) → PassedNew x c → Kept (new_effect x c)
  unfolding new_effect ask_reply relay_reply announce_reply
  sound_effect (ask_all time t sender n) p = by_sender Kept x refuses sender _ (by_joined Kept x refuses time t _ w (λ j. w))
  sound_effect (idontwant time id n) p = by_slot_lem Kept x refuses id _ (λ s l on i. sound_idontwant time n s l on)
  sound_effect (relay time t sender n) p = by_sender Kept x refuses sender _ (by_joined Kept x refuses time t _ w (λ j. w))
  sound_effect (beat time) p = record { sizes = sized_beat g w.sizes; fine = fine_beat st g w.fine }
  sound_effect (store time t n) p = sound_store time t n (topic_in_lem t (right (store time t n) p))
  sound_effect (announce time t order list) p =
      cond_case Kept (is_permutation slot_count order) _ (refused_all 7 x) (λ e. by_joined Kept x refuses time t _ w (λ j. w)) (λ e. w)
  sound_effect (ihave time id t numbers list) p = by_slot_lem Kept x refuses id _ (λ s l on i. sound_ihave time t numbers s l on)
  sound_effect (iwant time id n) p = by_slot_lem Kept x refuses id _ (λ s l on i. sound_iwant time n s l on)

-- ---- what 01's calls do besides: st is the state before, u the one that the call leaves
module _ (st u : State) (g : Gossip) (w : Sound st g) where
  -- "a leave empties its topic's store"
  pub sound_leave :
      (time t : ℕ) →
      t < topic_count →
      ((i : ℕ) → (peer_in u i).status ≡ (peer_in st i).status) →
      ((v : ℕ) → (v ≡ t → ⊥) → is_joined u v ≡ is_joined st v) →
      Sound u (besides st (leave time t) g)
  unfolding besides
  sound_leave time t k same j =
      record {
        sizes = sized_forget (set_store g t no_store) (sized_store g w.sizes t no_store k refl);
        fine = fine_leave st u g w.fine w.sizes t k same j;
      }

  -- a disconnect of slot s
  pub sound_parted :
      (s : ℕ) →
      s < slot_count →
      ((t : ℕ) → is_joined u t ≡ is_joined st t) →
      ((i : ℕ) → i < slot_count → (i ≡ s → ⊥) → (peer_in u i).status ≡ (peer_in st i).status) →
      (peer_in u s).status ≡ 2 →
      Sound u (on_found_note (Some s) g)
  sound_parted s l j same off =
      let n = parted (note_in g s) in
      record {
        sizes = sized_replies (set_note g s n) (sized_note g w.sizes s n) _;
        fine =
            fine_ended st u g w.fine w.sizes s l j same n
            (note_parted g.setup (peer_in st s) (note_in g s) (w.fine.note s l) (peer_in u s) off);
      }

-- ---- a connect
module _ (st : State) (g : Gossip) (w : Sound st g) (time id : ℕ) (groups : List ℕ) (flags : ℕ) (name : List ℕ) where
  abbrev after : Gossip
  after = besides st (connect time id groups flags name) g

  note_after : (s : ℕ) → s < slot_count → note_in after s ≡ kept st time g s
  unfolding note_in besides
  note_after s l = slots_at no_note (kept st time g) slot_count s l

  store_after : (t : ℕ) → store_in after t ≡ store_in g t
  unfolding store_in besides
  store_after t = refl

  stored_after : (n : ℕ) → stored g n ≡ true → stored after n ≡ true
  unfolding stored store_in besides
  stored_after n e = e

  sized_after : SizedGossip after
  unfolding besides
  sized_after =
      record {
        notes = slots_length slot_count (kept st time g);
        stores = w.sizes.stores;
        windows = λ t. ap length (store_after t) ∙ w.sizes.windows t;
      }

  setup_after : after.setup ≡ g.setup
  unfolding besides
  setup_after = refl

  replies_after : after.replies ≡ g.replies
  unfolding besides
  replies_after = refl

  -- once the reclaimable records are emptied
  cleared :
      (s : ℕ) →
      s < slot_count →
      note_ok g.setup (cond (reclaimable (peer_in st s) time) no_peer (peer_in st s)) (note_in after s) ≡ true
  unfolding kept
  cleared s l =
      let b = reclaimable (peer_in st s) time in
      ap (note_ok g.setup (cond b no_peer (peer_in st s))) (note_after s l)
      ∙ by_test (note_ok g.setup (cond b no_peer (peer_in st s)) (cond b no_note (note_in g s)) ≡ true) b
      (λ e. rw e (note_none g.setup no_peer))
      (λ e. rw e (w.fine.note s l))

  -- slot s is taken, and the others are as the reclaiming leaves them
  pub sound_connect :
      (u : State) (s : ℕ) →
      (peer_in u s).status ≡ 1 →
      ((i : ℕ) →
      i < slot_count →
      (i ≡ s → ⊥) →
      (peer_in u i).status ≡ (cond (reclaimable (peer_in st i) time) no_peer (peer_in st i)).status) →
      Remain st u →
      ((t : ℕ) → is_joined u t ≡ is_joined st t) →
      Sound u after
  sound_connect u s up same on j =
      record {
        sizes = sized_after;
        fine =
            fine_by st u g after w.fine setup_after
            (λ i k.
            let p = cond (reclaimable (peer_in st i) time) no_peer (peer_in st i) in
            by_test _ (eqb i s)
            (λ a.
            let q : i ≡ s = eqb-true i s a in
            note_connected g.setup p (note_in after i) (cleared i k) (peer_in u i) (rw q up))
            (λ a. note_peer g.setup p (note_in after i) (cleared i k) (peer_in u i) (same i k (eqb-false i s a))))
            (λ t k.
            ap (store_ok (is_joined u t)) (store_after t) ∙ ap (λ (b : Bool). store_ok b (store_in g t)) (j t) ∙ w.fine.store t k)
            replies_after
            (replies_remain st g.setup.replies (stored g) g.replies w.fine.replies u (stored after) on stored_after);
      }
