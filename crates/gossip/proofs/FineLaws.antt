-- Test 12 of the new parts, after each change of notes, stores, replies, statuses and joined topics.
-- Assumes nothing.
use Prim.Native.Nat.{ℕ, ◌<◌}
use native.Mathlib.Omega.{arith}
use mathlib.Core.Path.{◌≡◌, ap, ◌∙◌}
use mathlib.Core.Bool.{Bool, true, ◌||◌}
use mathlib.Core.List.{List, [], ◌∷◌}
use lib.Dec.{eqb}
use borrow.Author.Tests.{eqb-true, eqb-false}
use Rattle.index.proofs.Flags.{by_test}
use Rattle.records.specs.Records.{State, slot_count, topic_count, peer_in, is_connected}
use Rattle.effects.specs.Effects.{is_joined}
use Rattle.gossip.specs.Notes.{Setup, Note, Row, Gossip, no_store, note_in, store_in, has, stored_in}
use Rattle.gossip.specs.Notes.{stored, set_note, set_store, set_replies, added, count_in, replied, ended, keep, forget}
use Rattle.gossip.specs.Valid.{SizedGossip, setup_ok, note_ok, store_ok, replies_ok}
use Rattle.gossip.specs.Step.{beat_of}
use Rattle.gossip.proofs.NoteLaws.{note_same, note_other, store_after_note, stored_after_note, setup_after_note, replies_after_note}
use Rattle.gossip.proofs.NoteLaws.{note_after_store, store_same, store_other, setup_after_store, replies_after_store}
use Rattle.gossip.proofs.NoteLaws.{note_after_replies}
use Rattle.gossip.proofs.NoteLaws.{store_after_replies, stored_after_replies, setup_after_replies, replies_after_replies}
use Rattle.gossip.proofs.NoteLaws.{note_forget}
use Rattle.gossip.proofs.NoteLaws.{store_forget, setup_forget, replies_forget_after, note_beat, store_beat, setup_beat}
use Rattle.gossip.proofs.NoteLaws.{replies_beat}
use Rattle.gossip.proofs.StoredLaws.{stored_more}
use Rattle.gossip.proofs.RepliesOk.{Remain, replies_remain, replies_keep, replies_ended, replies_replied}
use Rattle.gossip.proofs.ListLaws.{or_true, has_append}
use Rattle.gossip.proofs.Fine.{Fine, room_for_reply}
use Rattle.gossip.proofs.NoteOk.{note_peer, note_beaten, store_none}
use Rattle.gossip.proofs.NoteOk.{store_moved}

-- ---- what stands where the peers' statuses and the joined topics stand
pub remain_same : (st u : State) → ((s : ℕ) → (peer_in u s).status ≡ (peer_in st s).status) → Remain st u
remain_same st u e s l on = ap (λ (n : ℕ). eqb n 1) (e s) ∙ on

pub fine_stands :
    (st u : State) (g : Gossip) →
    Fine st g →
    ((s : ℕ) → (peer_in u s).status ≡ (peer_in st s).status) →
    ((t : ℕ) → t < topic_count → store_ok (is_joined u t) (store_in g t) ≡ true) →
    Fine u g
fine_stands st u g f same joined =
    record {
      setup = f.setup;
      note = λ s l. note_peer g.setup (peer_in st s) (note_in g s) (f.note s l) (peer_in u s) (same s);
      store = joined;
      replies =
          replies_remain st g.setup.replies (stored g) g.replies f.replies u (stored g) (remain_same st u same) (λ n e. e);
    }

-- ---- notes, stores and replies change, and the set-up numbers stand
pub fine_by :
    (st u : State) (g h : Gossip) →
    Fine st g →
    h.setup ≡ g.setup →
    ((s : ℕ) → s < slot_count → note_ok g.setup (peer_in u s) (note_in h s) ≡ true) →
    ((t : ℕ) → t < topic_count → store_ok (is_joined u t) (store_in h t) ≡ true) →
    {l : List Row} →
    h.replies ≡ l →
    replies_ok u g.setup.replies (stored h) l ≡ true →
    Fine u h
fine_by st u g h f e n w i r =
    record {
      setup = ap setup_ok e ∙ f.setup;
      note = λ s l. ap (λ (p : Setup). note_ok p (peer_in u s) (note_in h s)) e ∙ n s l;
      store = w;
      replies =
          ap (λ (p : Setup). replies_ok u p.replies (stored h) h.replies) e
          ∙ ap (replies_ok u g.setup.replies (stored h)) i
          ∙ r;
    }

-- ---- one note; the replies are given as they are to be
module _
    (st u : State)
    (g : Gossip)
    (f : Fine st g)
    (z : SizedGossip g)
    (s : ℕ)
    (l : s < slot_count)
    (j : (t : ℕ) → is_joined u t ≡ is_joined st t)
    (same : (i : ℕ) → i < slot_count → (i ≡ s → ⊥) → (peer_in u i).status ≡ (peer_in st i).status)
    (p : Note)
    (ok : note_ok g.setup (peer_in u s) p ≡ true)
  where
    note_now : (i : ℕ) → i < slot_count → note_ok g.setup (peer_in u i) (note_in (set_note g s p) i) ≡ true
    note_now i k =
        by_test _ (eqb i s)
        (λ a.
        let q : i ≡ s = eqb-true i s a in
        ap (λ (v : ℕ). note_ok g.setup (peer_in u v) (note_in (set_note g s p) v)) q
        ∙ ap (note_ok g.setup (peer_in u s)) (note_same g s p (let y = z.notes in omega arith))
        ∙ ok)
        (λ a.
        ap (note_ok g.setup (peer_in u i)) (note_other g s p i (eqb-false i s a))
        ∙ note_peer g.setup (peer_in st i) (note_in g i) (f.note i k) (peer_in u i) (same i k (eqb-false i s a)))

    store_now : (t : ℕ) → t < topic_count → store_ok (is_joined u t) (store_in g t) ≡ true
    store_now t k = ap (λ (b : Bool). store_ok b (store_in g t)) (j t) ∙ f.store t k

    pub fine_note : Remain st u → Fine u (set_note g s p)
    fine_note on =
        fine_by st u g (set_note g s p) f (setup_after_note g s p) note_now
        (λ t k. ap (store_ok (is_joined u t)) (store_after_note g s p t) ∙ store_now t k)
        (replies_after_note g s p)
        (replies_remain st g.setup.replies (stored g) g.replies f.replies u (stored (set_note g s p)) on (λ n e.
        stored_after_note g s p n ∙ e))

    -- the connection ends
    others : (i : ℕ) → i < slot_count → (i ≡ s → ⊥) → is_connected (peer_in st i) ≡ true → is_connected (peer_in u i) ≡ true
    others i k d on = ap (λ (n : ℕ). eqb n 1) (same i k d) ∙ on

    pub fine_ended : Fine u (set_replies (set_note g s p) (ended s g.replies))
    fine_ended =
        let h = set_note g s p in
        let l = ended s g.replies in
        fine_by st u g (set_replies h l) f (setup_after_replies h l ∙ setup_after_note g s p)
        (λ i k. ap (note_ok g.setup (peer_in u i)) (note_after_replies h l i) ∙ note_now i k)
        (λ t k. ap (store_ok (is_joined u t)) (store_after_replies h l t ∙ store_after_note g s p t) ∙ store_now t k)
        (replies_after_replies h l)
        (replies_remain u g.setup.replies (stored g) l
        (replies_ended st g.setup.replies (stored g) g.replies f.replies u s others)
        u (stored (set_replies h l))
        (λ i k on. on)
        (λ n e. stored_after_replies h l n ∙ stored_after_note g s p n ∙ e))

-- ---- one store gets a number
module _ (st : State) (g : Gossip) (f : Fine st g) (z : SizedGossip g) (t : ℕ) (k : t < topic_count) where
  store_case : (w : List (List ℕ)) (P : ℕ → List (List ℕ) → Type 0) → P t w → (u : ℕ) → P u (store_in g u) → P u (store_in (set_store g t w) u)
  store_case w P a u b =
      by_test _ (eqb u t)
      (λ e.
      let q : u ≡ t = eqb-true u t e in
      rw (q, store_same g t w (let y = z.stores in omega arith)) a)
      (λ e. rw (store_other g t w u (eqb-false u t e)) b)

  pub fine_store :
      (w : List (List ℕ)) →
      ((n : ℕ) → stored_in (store_in g t) n ≡ true → stored_in w n ≡ true) →
      store_ok (is_joined st t) w ≡ true →
      Fine st (set_store g t w)
  fine_store w m ok =
      let h = set_store g t w in
      fine_by st st g h f (setup_after_store g t w)
      (λ s l. ap (note_ok g.setup (peer_in st s)) (note_after_store g t w s) ∙ f.note s l)
      (λ u l. store_case w (λ v x. store_ok (is_joined st v) x ≡ true) ok u (f.store u l))
      (replies_after_store g t w)
      (replies_remain st g.setup.replies (stored g) g.replies f.replies st (stored h) (λ s l on. on) (λ n e.
      stored_more g h n (λ u l. store_case w (λ v x. stored_in (store_in g v) n ≡ true → stored_in x n ≡ true) (m n) u (λ y. y)) e))

-- ---- a reply
pub fine_reply :
    (st : State) (g : Gossip) →
    Fine st g →
    SizedGossip g →
    (n s : ℕ) →
    s < slot_count →
    is_connected (peer_in st s) ≡ true →
    stored g n ≡ true →
    count_in g.replies n s < g.setup.replies →
    Fine st (set_replies g (replied n s g.replies))
fine_reply st g f z n s l on e room =
    let h = replied n s g.replies in
    fine_by st st g (set_replies g h) f (setup_after_replies g h)
    (λ i k. ap (note_ok g.setup (peer_in st i)) (note_after_replies g h i) ∙ f.note i k)
    (λ t k. ap (store_ok (is_joined st t)) (store_after_replies g h t) ∙ f.store t k)
    (replies_after_replies g h)
    (replies_remain st g.setup.replies (stored g) h
    (replies_replied st g.setup.replies (stored g) g.replies f.replies n s l on e room (room_for_reply st g z f n e s))
    st (stored (set_replies g h))
    (λ i k on. on)
    (λ m y. stored_after_replies g h m ∙ y))

pub added_more : (m : ℕ) (w : List (List ℕ)) (n : ℕ) → stored_in w n ≡ true → stored_in (added m w) n ≡ true
unfolding stored_in added
added_more m [] n e = e
added_more m (x ∷ w) n e =
    ap (λ (b : Bool). b || stored_in w n) (has_append n x (m ∷ []))
    ∙ by_test _ (has n x)
    (λ y. rw y)
    (λ y. let a : stored_in w n ≡ true = rw y at e in rw a (or_true (has n x || has n (m ∷ []))))

-- ---- a heartbeat, and a leave
pub fine_beat : (st : State) (g : Gossip) → Fine st g → Fine st (beat_of g)
fine_beat st g f =
    let h = beat_of g in
    fine_by st st g h f (setup_beat g)
    (λ s l.
    ap (note_ok g.setup (peer_in st s)) (note_beat g s)
    ∙ note_beaten g.setup (peer_in st s) (note_in g s) (f.note s l))
    (λ t l.
    ap (store_ok (is_joined st t)) (store_beat g t) ∙ store_moved (is_joined st t) (store_in g t) (f.store t l))
    (replies_beat g)
    (replies_keep st g.setup.replies (stored g) g.replies f.replies (stored h))

pub fine_leave :
    (st u : State) (g : Gossip) →
    Fine st g →
    SizedGossip g →
    (t : ℕ) →
    t < topic_count →
    ((i : ℕ) → (peer_in u i).status ≡ (peer_in st i).status) →
    ((v : ℕ) → (v ≡ t → ⊥) → is_joined u v ≡ is_joined st v) →
    Fine u (forget (set_store g t no_store))
fine_leave st u g f z t k same j =
    let e = set_store g t no_store in
    let h = forget e in
    let most = g.setup.replies in
    fine_by st u g h f (setup_forget e ∙ setup_after_store g t no_store)
    (λ s l.
    ap (note_ok g.setup (peer_in u s)) (note_forget e s ∙ note_after_store g t no_store s)
    ∙ note_peer g.setup (peer_in st s) (note_in g s) (f.note s l) (peer_in u s) (same s))
    (λ v l.
    ap (store_ok (is_joined u v)) (store_forget e v)
    ∙ by_test _ (eqb v t)
    (λ a.
    let q : v ≡ t = eqb-true v t a in
    ap (λ (w : ℕ). store_ok (is_joined u v) (store_in e w)) q
    ∙ ap (store_ok (is_joined u v)) (store_same g t no_store (let y = z.stores in omega arith))
    ∙ store_none (is_joined u v))
    (λ a.
    let d = eqb-false v t a in
    ap (store_ok (is_joined u v)) (store_other g t no_store v d)
    ∙ ap (λ (b : Bool). store_ok b (store_in g v)) (j v d)
    ∙ f.store v l))
    (replies_forget_after e ∙ ap (keep (stored h)) (replies_after_store g t no_store))
    (replies_keep u most (stored g) g.replies
    (replies_remain st most (stored g) g.replies f.replies u (stored g) (remain_same st u same) (λ n y. y))
    (stored h))
