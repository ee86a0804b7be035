-- What the changes of notes, stores and replies leave to be read.
-- Assumes nothing.
use Prim.Native.Nat.{ℕ, ◌<◌}
use native.Mathlib.Omega.{arith}
use mathlib.Core.Path.{◌≡◌, refl, sym, ap, ◌∙◌}
use mathlib.Core.Logic.{◌≢◌}
use mathlib.Core.Bool.{Bool}
use mathlib.Core.List.{List, [], ◌∷◌, map}
use lib.Dec.{eqb}
use lib.ListN.{length, get_or, replicate, length-set, length-map, length-take, length-replicate, get_or-replicate, get_or-map}
use lib.ListN.{get_or-eq_default}
use lib.Seq.{get_or-set_same, get_or-set_other}
use borrow.Author.Tests.{eqb-true, eqb-false}
use Rattle.index.proofs.Flags.{by_test, by_order}
use Rattle.records.specs.Records.{slot_count, topic_count}
use Rattle.gossip.specs.Notes.{Setup, Note, Row, Gossip, no_note, no_store, note_in, store_in, stored, set_note, set_store, set_replies}
use Rattle.gossip.specs.Notes.{aged, moved, added, keep, forget, fresh_gossip}
use Rattle.gossip.specs.Valid.{SizedGossip}
use Rattle.gossip.specs.Step.{beaten, beat_of}

-- ---- notes and stores
module _ (g : Gossip) where
  pub note_same : (s : ℕ) (p : Note) → s < length g.notes → note_in (set_note g s p) s ≡ p
  unfolding note_in set_note
  note_same s p h = get_or-set_same g.notes s p no_note h

  pub note_other : (s : ℕ) (p : Note) (u : ℕ) → u ≢ s → note_in (set_note g s p) u ≡ note_in g u
  unfolding note_in set_note
  note_other s p u n = get_or-set_other g.notes s u p no_note n

  pub store_after_note : (s : ℕ) (p : Note) (t : ℕ) → store_in (set_note g s p) t ≡ store_in g t
  unfolding store_in set_note
  store_after_note s p t = refl

  pub stored_after_note : (s : ℕ) (p : Note) (n : ℕ) → stored (set_note g s p) n ≡ stored g n
  unfolding stored store_in set_note
  stored_after_note s p n = refl

  pub note_after_store : (t : ℕ) (w : List (List ℕ)) (s : ℕ) → note_in (set_store g t w) s ≡ note_in g s
  unfolding note_in set_store
  note_after_store t w s = refl

  pub store_same : (t : ℕ) (w : List (List ℕ)) → t < length g.stores → store_in (set_store g t w) t ≡ w
  unfolding store_in set_store
  store_same t w h = get_or-set_same g.stores t w no_store h

  pub store_other : (t : ℕ) (w : List (List ℕ)) (u : ℕ) → u ≢ t → store_in (set_store g t w) u ≡ store_in g u
  unfolding store_in set_store
  store_other t w u n = get_or-set_other g.stores t u w no_store n

  pub note_after_replies : (l : List Row) (s : ℕ) → note_in (set_replies g l) s ≡ note_in g s
  unfolding note_in set_replies
  note_after_replies l s = refl

  pub store_after_replies : (l : List Row) (t : ℕ) → store_in (set_replies g l) t ≡ store_in g t
  unfolding store_in set_replies
  store_after_replies l t = refl

  pub stored_after_replies : (l : List Row) (n : ℕ) → stored (set_replies g l) n ≡ stored g n
  unfolding stored store_in set_replies
  stored_after_replies l n = refl

  -- ---- what else stands
  pub setup_after_note : (s : ℕ) (p : Note) → (set_note g s p).setup ≡ g.setup
  unfolding set_note
  setup_after_note s p = refl

  pub setup_after_store : (t : ℕ) (w : List (List ℕ)) → (set_store g t w).setup ≡ g.setup
  unfolding set_store
  setup_after_store t w = refl

  pub setup_after_replies : (l : List Row) → (set_replies g l).setup ≡ g.setup
  unfolding set_replies
  setup_after_replies l = refl

  pub replies_after_note : (s : ℕ) (p : Note) → (set_note g s p).replies ≡ g.replies
  unfolding set_note
  replies_after_note s p = refl

  pub replies_after_store : (t : ℕ) (w : List (List ℕ)) → (set_store g t w).replies ≡ g.replies
  unfolding set_store
  replies_after_store t w = refl

  pub replies_after_replies : (l : List Row) → (set_replies g l).replies ≡ l
  unfolding set_replies
  replies_after_replies l = refl

-- ---- forgetting
pub keep_same : (f h : ℕ → Bool) (l : List Row) → ((n : ℕ) → f n ≡ h n) → keep f l ≡ keep h l
unfolding keep
keep_same f h [] e = refl
keep_same f h (r ∷ l) e = rw (e r.number, keep_same f h l e)

module _ (g : Gossip) where
  pub note_forget : (s : ℕ) → note_in (forget g) s ≡ note_in g s
  unfolding note_in forget set_replies
  note_forget s = refl

  pub store_forget : (t : ℕ) → store_in (forget g) t ≡ store_in g t
  unfolding store_in forget set_replies
  store_forget t = refl

  pub stored_forget : (n : ℕ) → stored (forget g) n ≡ stored g n
  unfolding stored store_in forget set_replies
  stored_forget n = refl

  pub setup_forget : (forget g).setup ≡ g.setup
  unfolding forget set_replies
  setup_forget = refl

  pub replies_forget : (forget g).replies ≡ keep (stored g) g.replies
  unfolding forget set_replies
  replies_forget = refl

  -- the same by what is stored afterwards
  pub replies_forget_after : (forget g).replies ≡ keep (stored (forget g)) g.replies
  replies_forget_after = replies_forget ∙ keep_same (stored g) (stored (forget g)) g.replies (λ n. sym (stored_forget n))

-- ---- a heartbeat
module _ (g : Gossip) where
  abbrev shifted : Gossip
  shifted = record { setup = g.setup; notes = map beaten g.notes; stores = map moved g.stores; replies = g.replies }

  note_shifted : (s : ℕ) → note_in shifted s ≡ beaten (note_in g s)
  unfolding note_in aged
  note_shifted s = get_or-map beaten g.notes s no_note

  store_shifted : (t : ℕ) → store_in shifted t ≡ moved (store_in g t)
  unfolding store_in moved
  store_shifted t = get_or-map moved g.stores t no_store

  pub note_beat : (s : ℕ) → note_in (beat_of g) s ≡ beaten (note_in g s)
  unfolding beat_of
  note_beat s = note_forget shifted s ∙ note_shifted s

  pub store_beat : (t : ℕ) → store_in (beat_of g) t ≡ moved (store_in g t)
  unfolding beat_of
  store_beat t = store_forget shifted t ∙ store_shifted t

  pub setup_beat : (beat_of g).setup ≡ g.setup
  unfolding beat_of forget set_replies
  setup_beat = refl

  pub replies_beat : (beat_of g).replies ≡ keep (stored (beat_of g)) g.replies
  unfolding beat_of
  replies_beat = replies_forget_after shifted

-- ---- sizes
pub added_length : (n : ℕ) (w : List (List ℕ)) → length (added n w) ≡ length w
unfolding added
added_length n [] = refl
added_length n (x ∷ w) = refl

pub moved_length : (w : List (List ℕ)) → length w ≡ 5 → length (moved w) ≡ 5
unfolding moved
moved_length w l = let z = length-take 4 w in omega arith

module _ (g : Gossip) (h : SizedGossip g) where
  pub sized_note : (s : ℕ) (p : Note) → SizedGossip (set_note g s p)
  unfolding set_note store_in
  sized_note s p = record { notes = length-set g.notes s p ∙ h.notes; stores = h.stores; windows = h.windows }

  sized_store_notes : (t : ℕ) (w : List (List ℕ)) → length (set_store g t w).notes ≡ slot_count
  unfolding set_store
  sized_store_notes t w = h.notes

  sized_store_stores : (t : ℕ) (w : List (List ℕ)) → length (set_store g t w).stores ≡ topic_count
  unfolding set_store
  sized_store_stores t w = length-set g.stores t w ∙ h.stores

  pub sized_store : (t : ℕ) (w : List (List ℕ)) → t < topic_count → length w ≡ 5 → SizedGossip (set_store g t w)
  sized_store t w k l =
      record {
        notes = sized_store_notes t w;
        stores = sized_store_stores t w;
        windows = λ u.
            by_test _ (eqb u t)
            (λ e. let q : u ≡ t = eqb-true u t e in rw (q, store_same g t w (let z = h.stores in omega arith)) l)
            (λ e. rw (store_other g t w u (eqb-false u t e)) (h.windows u));
      }

  pub sized_replies : (l : List Row) → SizedGossip (set_replies g l)
  unfolding set_replies store_in
  sized_replies l = record { notes = h.notes; stores = h.stores; windows = h.windows }

  pub sized_forget : SizedGossip (forget g)
  unfolding forget
  sized_forget = sized_replies (keep (stored g) g.replies)

  beat_notes : length (beat_of g).notes ≡ slot_count
  unfolding beat_of forget set_replies
  beat_notes = length-map g.notes beaten ∙ h.notes

  beat_stores : length (beat_of g).stores ≡ topic_count
  unfolding beat_of forget set_replies
  beat_stores = length-map g.stores moved ∙ h.stores

  pub sized_beat : SizedGossip (beat_of g)
  sized_beat =
      record {
        notes = beat_notes;
        stores = beat_stores;
        windows = λ t. ap length (store_beat g t) ∙ moved_length (store_in g t) (h.windows t);
      }

-- ---- a fresh router's
always : {A : Type 0} (n k : ℕ) (a : A) → get_or (replicate n a) k a ≡ a
always n k a =
    by_order (get_or (replicate n a) k a ≡ a) k n (get_or-replicate n k a a) (λ h.
    get_or-eq_default (replicate n a) a {n = k} (rw length-replicate h))

module _ (p : Setup) where
  pub note_fresh : (s : ℕ) → note_in (fresh_gossip p) s ≡ no_note
  unfolding note_in fresh_gossip
  note_fresh s = always slot_count s no_note

  pub store_fresh : (t : ℕ) → store_in (fresh_gossip p) t ≡ no_store
  unfolding store_in fresh_gossip
  store_fresh t = always topic_count t no_store

  pub setup_fresh : (fresh_gossip p).setup ≡ p
  unfolding fresh_gossip
  setup_fresh = refl

  pub replies_fresh : (fresh_gossip p).replies ≡ []
  unfolding fresh_gossip
  replies_fresh = refl

  pub sized_fresh : SizedGossip (fresh_gossip p)
  unfolding fresh_gossip
  sized_fresh =
      record {
        notes = length-replicate slot_count no_note;
        stores = length-replicate topic_count no_store;
        windows = λ t. ap length (store_fresh t);
      }
