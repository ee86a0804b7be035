-- Test 12 of the new parts, slot by slot and topic by topic, and the room that it leaves for a reply.
-- Assumes nothing.
use Prim.Native.Nat.{ℕ, ◌<◌, ◌≤◌}
use native.Mathlib.Omega.{arith}
use mathlib.Core.Path.{◌≡◌}
use mathlib.Core.Bool.{Bool, true, false, ◌&&◌}
use lib.ListN.{length, length-map}
use Rattle.index.specs.Index.{every}
use Rattle.index.proofs.Index.{both, every_at, every_by}
use Rattle.index.proofs.Flags.{by_test}
use Rattle.records.specs.Records.{State, slot_count, topic_count, peer_in}
use Rattle.effects.specs.Effects.{is_joined}
use Rattle.gossip.specs.Notes.{Gossip, rows_most, note_in, store_in, has, stored, replied}
use Rattle.gossip.specs.Valid.{SizedGossip, all, row_number, window_ok, setup_ok, note_ok, store_ok, replies_ok, gossip_ok}
use Rattle.gossip.proofs.ListLaws.{and_by, rises_apart}
use Rattle.gossip.proofs.StoredLaws.{fewer_stored}
use Rattle.gossip.proofs.RowLaws.{numbers, replied_old, replied_new}
use Rattle.gossip.proofs.NoteOk.{store_parts}
use Rattle.gossip.proofs.RepliesOk.{replies_parts}

pub record Fine (st : State) (g : Gossip) : Type 0 where
  pub setup : setup_ok g.setup ≡ true
  pub note : (s : ℕ) → s < slot_count → note_ok g.setup (peer_in st s) (note_in g s) ≡ true
  pub store : (t : ℕ) → t < topic_count → store_ok (is_joined st t) (store_in g t) ≡ true
  pub replies : replies_ok st g.setup.replies (stored g) g.replies ≡ true

module _ (st : State) (g : Gossip) where
  abbrev note_at : ℕ → Bool
  note_at s = note_ok g.setup (peer_in st s) (note_in g s)

  abbrev store_at : ℕ → Bool
  store_at t = store_ok (is_joined st t) (store_in g t)

  abbrev replies_at : Bool
  replies_at = replies_ok st g.setup.replies (stored g) g.replies

  pub fine_of : gossip_ok st g ≡ true → Fine st g
  unfolding gossip_ok
  fine_of ok =
      let q = both (setup_ok g.setup && every slot_count note_at && every topic_count store_at) replies_at ok in
      let r = both (setup_ok g.setup && every slot_count note_at) (every topic_count store_at) q.0 in
      let s = both (setup_ok g.setup) (every slot_count note_at) r.0 in
      record {
        setup = s.0;
        note = λ i l. every_at note_at slot_count i s.1 l;
        store = λ t l. every_at store_at topic_count t r.1 l;
        replies = q.1;
      }

  pub of_fine : Fine st g → gossip_ok st g ≡ true
  unfolding gossip_ok
  of_fine f =
      and_by (and_by (and_by f.setup (every_by note_at slot_count f.note)) (every_by store_at topic_count f.store)) f.replies

  -- ---- rows of stored numbers: as many as the stores have room for
  module _ (size : SizedGossip g) (f : Fine st g) (n : ℕ) (kept : stored g n ≡ true) where
    fits : (t : ℕ) → t < topic_count → all window_ok (store_in g t) ≡ true
    fits t l = (store_parts (is_joined st t) (store_in g t) (f.store t l)).0

    -- a stored number that has no row finds room for one
    pub room_for_row : has n (numbers g.replies) ≡ false → length g.replies < rows_most
    room_for_row out =
        let q = replies_parts st g.setup.replies (stored g) g.replies f.replies in
        let z = fewer_stored g size fits (numbers g.replies) n (rises_apart (numbers g.replies) q.1) q.2 kept out in
        omega (arith, length-map g.replies row_number)

    pub room_for_reply : (s : ℕ) → length (replied n s g.replies) ≤ rows_most
    room_for_reply s =
        let l = g.replies in
        let q = replies_parts st g.setup.replies (stored g) l f.replies in
        by_test _ (has n (numbers l))
        (λ e. let a = replied_old n s l q.1 e in let b = q.0 in omega arith)
        (λ e. let a = replied_new n s l e in let b = room_for_row e in omega arith)
