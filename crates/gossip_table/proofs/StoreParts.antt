-- From test 12 of the array to what the crates of the stores and of the replies rely on, and from what they promise to the array's state.
-- Assumes nothing.
use Rattle.index.proofs.Kit.{ℕ, ◌≤◌, ◌<◌, ◌+◌, ◌*◌, ◌≡◌, refl, sym, ap, ◌∙◌, Bool, false, arith}
use Rattle.std.proofs.Common.{Option}
use mathlib.Core.Path.{subst}
use mathlib.Core.List.{List, [], map}
use lib.ListN.{length, get_or, set}
use borrow.Author.Tests.{le-leb, ltb-true}
use borrow.Rule.Slice.PartMut.{put_mid, same_len_mid}
use Rattle.index.proofs.Index.{every_by}
use Rattle.records.specs.Records.{topic_count}
use Rattle.stores.specs.View.{stores_cells, stores_of, store_at, stored_at, Windows, Store, PlaceOf}
use Rattle.stores.proofs.ViewLaws.{length_store, length_stores, stored_state, stored_is}
use Rattle.stores.proofs.ApartLaws.{windows_right}
use Rattle.effects.specs.Effects.{is_joined}
use Rattle.replies.specs.View.{replies_cells, replies_of}
use Rattle.replies.specs.Asked.{RowOf, SlotOf, Ordered, Room, Flagged, FlagsSay}
use Rattle.notes.proofs.NoteLaws.{notes_length}
use Rattle.gossip.proofs.Fine.{fine_of, room_for_reply}
use Rattle.gossip.specs.Notes.{Row, window_count, window_most, rows_most, numbers_most, store_in, stored, set_store, set_replies, count_in, replied}
use Rattle.gossip.specs.Notes.{moved, keep, forget}
use Rattle.gossip.specs.Valid.{row_number, SizedGossip}
use lib.Seq.{sets}
use Rattle.gossip.specs.Step.{running, wanted}
use Rattle.gossip_table.specs.View.{stores_at, replies_at, gossip_cells, notes_part, stores_part, replies_part, gossip_of, set_stores}
use Rattle.gossip_table.specs.Fine.{Fine, FineSlot, FineTopic, Kept, KeptSlot, KeptRow, StoreFits, ReplyFits, Announces, Wants}
use Rattle.gossip_table.proofs.PartLaws.{part_length, part_same, part_behind}
use Rattle.gossip_table.proofs.ViewLaws.{stores_put, replies_put}
use Rattle.gossip_table.proofs.FineLaws.{fine_rows}

-- ---- the parts
pub stores_size : (c : List ℕ) → length c ≡ gossip_cells → length (stores_part c) ≡ stores_cells
stores_size c e = part_length stores_at stores_cells c (omega arith)

pub replies_size : (c : List ℕ) → length c ≡ gossip_cells → length (replies_part c) ≡ replies_cells
replies_size c e = part_length replies_at replies_cells c (omega arith)

pub store_part : (c : List ℕ) (t : ℕ) → store_at (stores_part c) t ≡ store_in (gossip_of c) t
unfolding gossip_of store_in
store_part c t = refl

pub replies_part_lem : (c : List ℕ) → replies_of (replies_part c) ≡ (gossip_of c).replies
unfolding gossip_of
replies_part_lem c = refl

pub stored_part : (c : List ℕ) (n : ℕ) → stored_at (stores_part c) n ≡ stored (gossip_of c) n
unfolding gossip_of
stored_part c n = sym (stored_state (gossip_of c) (stores_part c) refl n)

-- ---- the windows
pub fine_stores : {c : List ℕ} → Fine c → Windows (stores_part c)
fine_stores {c} f =
    windows_right (stores_part c) (is_joined f.base) (stores_size c f.size)
    (every_by _ topic_count (λ t l. rw (store_part c t) ((fine_of f.base (gossip_of c) f.ok).store t l)))

pub fine_topic : {c : List ℕ} {t : ℕ} → FineTopic c t → Store (stores_part c) t
fine_topic {c} {t} h =
    let w = fine_stores h.fine in
    record {
      cells = w.cells;
      low = h.topic;
      most = λ k l. let b : t < topic_count = h.topic in w.most (t * window_count + k) (omega arith);
    }

pub fine_kept : {c : List ℕ} → Fine c → Kept c
fine_kept {c} f =
    record {
      size = f.size;
      windows = fine_stores f;
      rows = rw (replies_part_lem c) (fine_rows f.base (gossip_of c) f.ok).0;
    }

-- ---- the rows

pub row_kept : {c : List ℕ} {r : ℕ} → KeptRow c r → RowOf (replies_part c) r
row_kept {c} k = record { size = replies_size c k.size; few = k.rows; here = k.row }

pub slot_kept : {c : List ℕ} {s : ℕ} → KeptSlot c s → SlotOf (replies_part c) s
slot_kept {c} k = record { size = replies_size c k.kept.size; few = k.kept.rows; slot = k.slot }

pub fine_ordered : {c : List ℕ} {s : ℕ} → FineSlot c s → Ordered (replies_part c) s
fine_ordered {c} h =
    let q = fine_rows h.fine.base (gossip_of c) h.fine.ok in
    record {
      size = replies_size c h.fine.size;
      few = rw (replies_part_lem c) q.0;
      rise = rw (replies_part_lem c) q.1;
      slot = h.slot;
    }

-- the sizes that an array gives by its form
pub gossip_sized : (c : List ℕ) → SizedGossip (gossip_of c)
unfolding gossip_of
gossip_sized c =
    record {
      notes = notes_length (notes_part c);
      stores = length_stores (stores_part c);
      windows = λ t. ap length (sym (store_part c t)) ∙ length_store (stores_part c) t;
    }

-- room for one reply more: the count is below its bound, and rows of stored numbers never fill the part
pub room_fits : {c : List ℕ} {n s : ℕ} → ReplyFits c n s → Room (replies_part c) n s
room_fits {c} {n} {s} h =
    let q = fine_rows h.fine.base (gossip_of c) h.fine.ok in
    let e = replies_part_lem c in
    let few : count_in (gossip_of c).replies n s < 32 = h.few in
    let room = room_for_reply h.fine.base (gossip_of c) (gossip_sized c) (fine_of h.fine.base (gossip_of c) h.fine.ok) n h.kept
    s in
    record {
      size = replies_size c h.fine.size;
      few = rw e q.0;
      rise = rw e q.1;
      slot = h.slot;
      small = rw e (let k : count_in (gossip_of c).replies n s < 63 = omega arith in k);
      room = rw e (le-leb (length (replied n s (gossip_of c).replies)) rows_most room);
    }

-- ---- one part put back
pub store_back :
    (c l : List ℕ) (t : ℕ) (f : List (List ℕ) → List (List ℕ)) →
    length c ≡ gossip_cells →
    length l ≡ stores_cells →
    stores_of l ≡ set (stores_of (stores_part c)) t (f (store_at (stores_part c) t)) →
    gossip_of (put_mid stores_at stores_cells c l) ≡ set_store (gossip_of c) t (f (store_in (gossip_of c) t))
unfolding set_store gossip_of store_in stores_of
store_back c l t f size long e = stores_put c l size long ∙ ap (set_stores (gossip_of c)) e

pub moved_back :
    (c l : List ℕ) →
    length c ≡ gossip_cells →
    length l ≡ stores_cells →
    stores_of l ≡ map moved (stores_of (stores_part c)) →
    gossip_of (put_mid stores_at stores_cells c l) ≡ set_stores (gossip_of c) (map moved (gossip_of c).stores)
unfolding gossip_of stores_of
moved_back c l size long e = stores_put c l size long ∙ ap (set_stores (gossip_of c)) e

pub replies_back :
    (c l : List ℕ) (f : List Row → List Row) →
    length c ≡ gossip_cells →
    length l ≡ replies_cells →
    replies_of l ≡ f (replies_of (replies_part c)) →
    gossip_of (put_mid replies_at replies_cells c l) ≡ set_replies (gossip_of c) (f (gossip_of c).replies)
replies_back c l f size long e = replies_put c l size long ∙ ap (set_replies (gossip_of c)) (e ∙ ap f (replies_part_lem c))

-- what is kept stays so where the stores are put back
pub kept_stores :
    (c l : List ℕ) → Kept c → Windows l → Kept (put_mid stores_at stores_cells c l)
kept_stores c l k w =
    let long : length l ≡ stores_cells = w.cells in
    let fits : stores_at + stores_cells ≤ length c = let e : length c ≡ gossip_cells = k.size in omega arith in
    record {
      size = same_len_mid stores_at stores_cells c l (long ∙ sym (stores_size c k.size)) ∙ k.size;
      windows = rw (part_same stores_at stores_cells c l fits long) w;
      rows = rw (part_behind stores_at stores_cells c l fits long replies_at replies_cells (omega arith)) k.rows;
    }

-- ---- what single functions rely on, and what they find
pub add_fits :
    {c : List ℕ} {t : ℕ} →
    StoreFits c t →
    Windows (stores_part c) × ((t < topic_count) × (running (store_at (stores_part c) t) < window_most))
add_fits {c} {t} h =
    let e = ap running (store_part c t) in
    (fine_stores h.fine, (h.topic, omega (arith, e, ltb-true (running (store_in (gossip_of c) t)) window_most h.room)))

pub empty_fits : {c : List ℕ} {t : ℕ} → FineTopic c t → Windows (stores_part c) × (t < topic_count)
empty_fits h = (fine_stores h.fine, h.topic)

pub announce_fits :
    {c : List ℕ} {t : ℕ} {l : List ℕ} → Announces c t l → Store (stores_part c) t × (numbers_most ≤ length l)
announce_fits h = (fine_topic (record { fine = h.fine; topic = h.topic }), h.room)

pub find_by :
    (c : List ℕ) (n : ℕ) (r : Option ℕ) → PlaceOf (stored_at (stores_part c) n) r → PlaceOf (stored (gossip_of c) n) r
find_by c n r e = subst (λ (b : Bool). PlaceOf b r) (stored_part c n) e

pub stays_by :
    (c : List ℕ) (k n : ℕ) (r : Bool) →
    n ≡ get_or (map row_number (replies_of (replies_part c))) k 0 →
    r ≡ stored_at (stores_part c) n →
    r ≡ stored (gossip_of c) (get_or (map row_number (gossip_of c).replies) k 0)
stays_by c k n r e f =
    f
    ∙ stored_part c n
    ∙ ap (stored (gossip_of c)) (e ∙ ap (λ (l : List Row). get_or (map row_number l) k 0) (replies_part_lem c))

-- the rows whose number is stored
pub flagged : {c : List ℕ} {flags : List Bool} → Kept c → length flags ≡ rows_most → Flagged (replies_part c) flags
flagged {c} k e =
    record { size = replies_size c k.size; few = k.rows; enough = let l = k.rows in omega (arith, e, l) }

pub forget_back :
    (c l : List ℕ) (flags : List Bool) →
    length c ≡ gossip_cells →
    length l ≡ replies_cells →
    ((k : ℕ) → k < length (gossip_of c).replies →
    get_or flags k false ≡ stored (gossip_of c) (get_or (map row_number (gossip_of c).replies) k 0)) →
    ((f : ℕ → Bool) → FlagsSay f flags (replies_of (replies_part c)) → replies_of l ≡ keep f (replies_of (replies_part c))) →
    gossip_of (put_mid replies_at replies_cells c l) ≡ forget (gossip_of c)
unfolding forget
forget_back c l flags size long say kept =
    replies_back c l (keep (stored (gossip_of c))) size long (kept (stored (gossip_of c)) (rw (replies_part_lem c) say))

pub replies_count : (c : List ℕ) → length (replies_of (replies_part c)) ≡ length (gossip_of c).replies
replies_count c = ap length (replies_part_lem c)

pub want_fits :
    {c given l : List ℕ} →
    Wants c given l →
    Windows (stores_part c) × ((length given ≤ numbers_most) × (numbers_most ≤ length l))
want_fits h = (fine_stores h.fine, (h.few, h.room))

pub want_by :
    (c given l l' : List ℕ) (r : ℕ) →
    (l' ≡ sets l 0 (wanted (stored_at (stores_part c)) [] given)) × (r ≡ length (wanted (stored_at (stores_part c)) [] given)) →
    (l' ≡ sets l 0 (wanted (stored (gossip_of c)) [] given)) × (r ≡ length (wanted (stored (gossip_of c)) [] given))
unfolding gossip_of
want_by c given l l' r e =
    let q = sym (stored_is (gossip_of c) (stores_part c) refl) in
    (e.0 ∙ ap (λ (f : ℕ → Bool). sets l 0 (wanted f [] given)) q, e.1 ∙ ap (λ (f : ℕ → Bool). length (wanted f [] given)) q)
