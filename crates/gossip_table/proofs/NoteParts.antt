-- From test 12 of the array to what the crate of the notes relies on, and from what it promises to the array's state.
-- Assumes nothing.
use Rattle.index.proofs.Kit.{ℕ, ◌≤◌, ◌<◌, ◌≡◌, refl, ap, ◌∙◌, Bool, arith}
use mathlib.Core.Bool.{◌&&◌}
use mathlib.Core.List.{List, map}
use lib.Dec.{ltb}
use lib.ListN.{length, set}
use borrow.Author.Tests.{ltb-true}
use borrow.Rule.Slice.PartMut.{put_mid}
use Rattle.index.proofs.Index.{both}
use Rattle.records.specs.Records.{slot_count}
use Rattle.notes.specs.View.{notes_cells, notes_of, note_at}
use Rattle.notes.specs.Lent.{AtSlot, SetFits, PutFits, IhaveFits, AllFit}
use Rattle.gossip.specs.Notes.{Note, no_note, set_most, note_in, set_note}
use Rattle.gossip.specs.Step.{has_room, with_put, with_ihave, parted, beaten}
use Rattle.gossip_table.specs.View.{notes_at, gossip_cells, notes_part, gossip_of, set_notes}
use Rattle.gossip_table.specs.Fine.{Fine, FineSlot, Lent, HasRoom}
use Rattle.gossip_table.proofs.PartLaws.{part_length}
use Rattle.gossip_table.proofs.ViewLaws.{notes_put}
use Rattle.gossip_table.proofs.FineLaws.{fine_held, fine_counts}

pub notes_size : (c : List ℕ) → length c ≡ gossip_cells → length (notes_part c) ≡ notes_cells
notes_size c e = part_length notes_at notes_cells c (omega arith)

-- the note of a slot, read in its part
pub note_part : (c : List ℕ) (s : ℕ) → note_at (notes_part c) s ≡ note_in (gossip_of c) s
unfolding gossip_of note_in note_at
note_part c s = refl

pub at_slot : {c : List ℕ} {s : ℕ} → Lent c s → AtSlot (notes_part c) s
at_slot {c} h = record { size = notes_size c h.size; slot = h.slot }

pub fine_slot : {c : List ℕ} {s : ℕ} → FineSlot c s → AtSlot (notes_part c) s
fine_slot {c} h = record { size = notes_size c h.fine.size; slot = h.slot }

held_most : (c : List ℕ) (s : ℕ) → Fine c → s < slot_count → length (note_at (notes_part c) s).held ≤ set_most
held_most c s f l = rw (note_part c s) (fine_held f.base (gossip_of c) f.ok s l)

pub set_fits : {c : List ℕ} {s : ℕ} → FineSlot c s → SetFits (notes_part c) s
set_fits {c} {s} h =
    record { size = notes_size c h.fine.size; slot = h.slot; held = held_most c s h.fine h.slot }

pub all_fit : {c : List ℕ} → Fine c → AllFit (notes_part c)
all_fit {c} f = record { size = notes_size c f.size; held = λ s l. held_most c s f l }

pub ihave_fits : {c : List ℕ} {s : ℕ} → FineSlot c s → IhaveFits (notes_part c) s
ihave_fits {c} {s} h =
    record {
      size = notes_size c h.fine.size;
      slot = h.slot;
      ihaves =
          let e = ap (λ (n : Note). n.ihaves) (note_part c s) in
          omega (arith, e, (fine_counts h.fine.base (gossip_of c) h.fine.ok s h.slot).1);
    }

pub put_fits : {c : List ℕ} {s : ℕ} → HasRoom c s → PutFits (notes_part c) s
put_fits {c} {s} h =
    let n = note_in (gossip_of c) s in
    let q = both (ltb n.puts (gossip_of c).setup.limit) (ltb (length n.held) set_most) h.room in
    let e = ap (λ (m : Note). m.puts) (note_part c s) in
    let f = ap (λ (m : Note). length m.held) (note_part c s) in
    record {
      size = notes_size c h.fine.size;
      slot = h.slot;
      held = omega (arith, f, ltb-true (length n.held) set_most q.1);
      puts = omega (arith, e, (fine_counts h.fine.base (gossip_of c) h.fine.ok s h.slot).0);
    }

-- one note, put back
note_put :
    (c l : List ℕ) (s : ℕ) (f : Note → Note) →
    length c ≡ gossip_cells →
    length l ≡ notes_cells →
    notes_of l ≡ set (notes_of (notes_part c)) s (f (note_at (notes_part c) s)) →
    gossip_of (put_mid notes_at notes_cells c l) ≡ set_note (gossip_of c) s (f (note_in (gossip_of c) s))
unfolding set_note gossip_of note_in notes_of note_at
note_put c l s f size long e = notes_put c l size long ∙ ap (set_notes (gossip_of c)) e

-- the same, by what is done to it
module _ (c l : List ℕ) (s : ℕ) (size : length c ≡ gossip_cells) (long : length l ≡ notes_cells) where
  pub put_back :
      (n : ℕ) →
      notes_of l ≡ set (notes_of (notes_part c)) s (with_put n (note_at (notes_part c) s)) →
      gossip_of (put_mid notes_at notes_cells c l) ≡ set_note (gossip_of c) s (with_put n (note_in (gossip_of c) s))
  put_back n e = note_put c l s (with_put n) size long e

  pub ihave_back :
      notes_of l ≡ set (notes_of (notes_part c)) s (with_ihave (note_at (notes_part c) s)) →
      gossip_of (put_mid notes_at notes_cells c l) ≡ set_note (gossip_of c) s (with_ihave (note_in (gossip_of c) s))
  ihave_back e = note_put c l s with_ihave size long e

  pub part_back :
      notes_of l ≡ set (notes_of (notes_part c)) s (parted (note_at (notes_part c) s)) →
      gossip_of (put_mid notes_at notes_cells c l) ≡ set_note (gossip_of c) s (parted (note_in (gossip_of c) s))
  part_back e = note_put c l s parted size long e

  pub clear_back :
      notes_of l ≡ set (notes_of (notes_part c)) s no_note → gossip_of (put_mid notes_at notes_cells c l) ≡ set_note (gossip_of c) s no_note
  clear_back e = note_put c l s (λ n. no_note) size long e

-- all notes
pub beat_back :
    (c l : List ℕ) →
    length c ≡ gossip_cells →
    length l ≡ notes_cells →
    notes_of l ≡ map beaten (notes_of (notes_part c)) →
    gossip_of (put_mid notes_at notes_cells c l) ≡ set_notes (gossip_of c) (map beaten (gossip_of c).notes)
unfolding gossip_of notes_of
beat_back c l size long e = notes_put c l size long ∙ ap (set_notes (gossip_of c)) e

-- what is read of a note, with a set-up number that was read before
module _ (c : List ℕ) (s : ℕ) (r : Bool) where
  pub room_by :
      (limit : ℕ) →
      limit ≡ (gossip_of c).setup.limit →
      r ≡ (ltb (note_at (notes_part c) s).puts limit && ltb (length (note_at (notes_part c) s).held) set_most) →
      r ≡ has_room (gossip_of c).setup (note_in (gossip_of c) s)
  room_by limit e f = let n = note_part c s in cc

  pub ihave_by :
      (bound many : ℕ) →
      bound ≡ (gossip_of c).setup.ihaves →
      many ≡ (note_at (notes_part c) s).ihaves →
      r ≡ ltb many bound →
      r ≡ ltb (note_in (gossip_of c) s).ihaves (gossip_of c).setup.ihaves
  ihave_by bound many e f g = let n = note_part c s in cc
