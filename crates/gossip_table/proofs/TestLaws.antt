-- Test 12 of the array, from what the crates of its parts say of them.
-- Assumes nothing.
use Rattle.index.proofs.Kit.{ℕ, ◌≤◌, ◌<◌, ◌≡◌, refl, sym, ap, ◌∙◌, Bool, true, false, every}
use Prim.Native.Nat.{◌%◌}
use mathlib.Core.Bool.{◌&&◌}
use mathlib.Core.List.{List, map}
use lib.Dec.{eqb, leb}
use lib.ListN.{length, get_or, replicate, length-map, get_or-replicate}
use borrow.Author.Tests.{eq-eqb, ne_eqb, leb-true}
use Rattle.index.proofs.Index.{both, every_at, every_by}
use Rattle.index.proofs.Flags.{by_test}
use Rattle.records.specs.Records.{State, slot_count, topic_count, peer_in, is_connected}
use Rattle.layout.specs.View.{bit_at}
use Rattle.validity.specs.Valid.{valid}
use Rattle.effects.specs.Effects.{is_joined}
use Rattle.peer_score.proofs.ConnectedLaws.{connected_on, connected_off}
use Rattle.notes.specs.View.{note_at, counts_fit}
use Rattle.notes.proofs.NoteLaws.{nothing_passes}
use Rattle.stores.specs.View.{stores_cells, stores_of, store_at, Windows}
use Rattle.replies.specs.View.{replies_of}
use Rattle.replies.specs.Asked.{on_bits, rows_ok}
use Rattle.replies.proofs.TestLaws.{rows_ok_test}
use Rattle.gossip.specs.Notes.{Row, Gossip, no_note, no_store, rows_most, note_in, store_in, stored}
use Rattle.gossip.specs.Valid.{all, rises, setup_ok, set_ok, note_ok, store_ok, row_number, replies_ok, gossip_ok}
use Rattle.stores.proofs.ApartLaws.{windows_right}
use Rattle.gossip.proofs.ListLaws.{clash}
use Rattle.gossip.proofs.NoteOk.{store_none}
use Rattle.replies.proofs.ListLaws.{all_at, all_by}
use Rattle.gossip_table.specs.View.{setup_by, setup_of, notes_part, stores_part, replies_part, gossip_of}
use Rattle.gossip_table.specs.Fine.{is_kept}
use Rattle.gossip_table.proofs.NoteParts.{note_part}
use Rattle.gossip_table.proofs.StoreParts.{store_part, replies_part_lem}

-- ---- notes
pub still_passes : (c : List ℕ) (st : State) (s : ℕ) → note_at (notes_part c) s ≡ no_note → true
    ≡ note_ok (gossip_of c).setup (peer_in st s) (note_in (gossip_of c) s)
still_passes c st s e = rw (← note_part c s, e) (sym (nothing_passes (gossip_of c).setup (peer_in st s)))

pub quiet_passes :
    (c : List ℕ) (st : State) →
    ((s : ℕ) → s < slot_count → note_at (notes_part c) s ≡ no_note) →
    true ≡ every slot_count (λ s. note_ok (gossip_of c).setup (peer_in st s) (note_in (gossip_of c) s))
quiet_passes c st h =
    sym (every_by (λ s. note_ok (gossip_of c).setup (peer_in st s) (note_in (gossip_of c) s)) slot_count
    (λ s l. sym (still_passes c st s (h s l))))

pub judged_passes :
    (c : List ℕ) (st : State) (s status limit ihaves : ℕ) (r : Bool) →
    status ≡ (peer_in st s).status →
    limit ≡ (gossip_of c).setup.limit →
    ihaves ≡ (gossip_of c).setup.ihaves →
    r ≡ (set_ok (eqb status 1) (note_at (notes_part c) s).held && counts_fit limit ihaves (eqb status 0) (note_at (notes_part c) s)) →
    r ≡ note_ok (gossip_of c).setup (peer_in st s) (note_in (gossip_of c) s)
unfolding note_ok
judged_passes c st s status limit ihaves r a b d e = let n = note_part c s in cc

-- ---- stores
pub quiet_stores :
    (c : List ℕ) (joined : ℕ → Bool) →
    stores_of (stores_part c) ≡ replicate topic_count no_store →
    true ≡ every topic_count (λ t. store_ok (joined t) (store_in (gossip_of c) t))
unfolding gossip_of store_in
quiet_stores c joined e =
    sym (every_by (λ t. store_ok (joined t) (store_in (gossip_of c) t)) topic_count
    (λ t l.
    ap (λ (w : List (List (List ℕ))). store_ok (joined t) (get_or w t no_store)) e
    ∙ ap (store_ok (joined t)) (get_or-replicate topic_count t no_store no_store l)
    ∙ store_none (joined t)))

pub store_judged :
    (c : List ℕ) (t : ℕ) {joined is r : Bool} →
    joined ≡ is →
    r ≡ store_ok joined (store_at (stores_part c) t) →
    r ≡ store_ok is (store_in (gossip_of c) t)
store_judged c t {joined} {is} {r} j e =
    e ∙ ap (λ (b : Bool). store_ok b (store_at (stores_part c) t)) j ∙ ap (store_ok is) (store_part c t)

pub stores_judged :
    (c : List ℕ) (joined : ℕ → Bool) →
    length (stores_part c) ≡ stores_cells →
    every topic_count (λ t. store_ok (joined t) (store_in (gossip_of c) t)) ≡ true →
    Windows (stores_part c)
unfolding gossip_of store_in
stores_judged c joined size e = windows_right (stores_part c) joined size e

-- ---- replies
-- every element by its place, or all of them
all_every : (f : ℕ → Bool) (l : List ℕ) → every (length l) (λ k. f (get_or l k 0)) ≡ all f l
all_every f l =
    by_test _ (all f l)
    (λ e. every_by (λ k. f (get_or l k 0)) (length l) (λ k h. all_at f l k 0 e h) ∙ sym e)
    (λ e.
    by_test _ (every (length l) (λ k. f (get_or l k 0)))
    (λ d. clash (all_by f l 0 (λ k h. every_at (λ j. f (get_or l j 0)) (length l) k d h)) e)
    (λ d. d ∙ sym e))

pub connected_is :
    (st : State) → valid st ≡ true → (r : List ℕ) → length r ≡ 4 →
    ((s : ℕ) → s < slot_count → bit_at r 0 s ≡ (peer_in st s).status % 2) →
    (s : ℕ) → s < slot_count → on_bits r s ≡ is_connected (peer_in st s)
connected_is st ok r z bits s l =
    by_test _ (on_bits r s)
    (λ e. e ∙ sym (eq-eqb (peer_in st s).status 1 (connected_on st ok r z bits s l e)))
    (λ e. e ∙ sym (ne_eqb (peer_in st s).status 1 (connected_off st ok r z bits s l e)))

-- the rows themselves, and then whether their numbers are stored
module _ (st : State) (c : List ℕ) (most : ℕ) (on : ℕ → Bool) (e : most ≡ (gossip_of c).setup.replies)
    (h : (s : ℕ) → s < slot_count → on s ≡ is_connected (peer_in st s)) where
  abbrev g : Gossip
  g = gossip_of c

  test : rows_ok on most g.replies && all (stored g) (map row_number g.replies)
      ≡ replies_ok st g.setup.replies (stored g) g.replies
  test = rows_ok_test st on (stored g) most g.replies h ∙ ap (λ (k : ℕ). replies_ok st k (stored g) g.replies) e

  pub rows_broken :
      rows_ok on most (replies_of (replies_part c)) ≡ false → false ≡ replies_ok st g.setup.replies (stored g) g.replies
  rows_broken f =
      sym (ap (λ (b : Bool). b && all (stored g) (map row_number g.replies)) (sym (ap (rows_ok on most) (replies_part_lem c)) ∙ f)) ∙ test

  pub rows_judged :
      (r : Bool) →
      rows_ok on most (replies_of (replies_part c)) ≡ true →
      r ≡ every (length g.replies) (is_kept g) →
      r ≡ replies_ok st g.setup.replies (stored g) g.replies
  rows_judged r f k =
      k
      ∙ ap (λ (n : ℕ). every n (is_kept g)) (sym (length-map g.replies row_number))
      ∙ all_every (stored g) (map row_number g.replies)
      ∙ sym (ap (λ (b : Bool). b && all (stored g) (map row_number g.replies)) (sym (ap (rows_ok on most) (replies_part_lem c)) ∙ f))
      ∙ test

-- rows that pass are few
pub rows_few : (on : ℕ → Bool) (most : ℕ) (l : List Row) → rows_ok on most l ≡ true → length l ≤ rows_most
unfolding rows_ok
rows_few on most l e =
    let a = both (leb (length l) rows_most && rises (map row_number l)) _ e in
    leb-true (length l) rows_most (both (leb (length l) rows_most) (rises (map row_number l)) a.0).0

-- ---- the set-up numbers, and all together
pub numbers_judged :
    (c : List ℕ) (limit lazy factor ihaves replies : ℕ) (r : Bool) →
    limit ≡ (gossip_of c).setup.limit →
    lazy ≡ (gossip_of c).setup.lazy →
    factor ≡ (gossip_of c).setup.factor →
    ihaves ≡ (gossip_of c).setup.ihaves →
    replies ≡ (gossip_of c).setup.replies →
    r ≡ setup_ok (setup_by limit lazy factor ihaves replies) →
    r ≡ setup_ok (gossip_of c).setup
unfolding gossip_of setup_of
numbers_judged c limit lazy factor ihaves replies r a b d e f g = cc

module _ (st : State) (g : Gossip) where
  abbrev notes_fine : Bool
  notes_fine = every slot_count (λ s. note_ok g.setup (peer_in st s) (note_in g s))

  abbrev stores_fine : Bool
  stores_fine = every topic_count (λ t. store_ok (is_joined st t) (store_in g t))

  abbrev replies_fine : Bool
  replies_fine = replies_ok st g.setup.replies (stored g) g.replies

  pub gossip_broken1 : setup_ok g.setup ≡ false → false ≡ gossip_ok st g
  unfolding gossip_ok
  gossip_broken1 e = sym (ap (λ (b : Bool). b && notes_fine && stores_fine && replies_fine) e)

  pub gossip_broken2 : notes_fine ≡ false → false ≡ gossip_ok st g
  unfolding gossip_ok
  gossip_broken2 e =
      go (setup_ok g.setup) ∙ sym (ap (λ (b : Bool). setup_ok g.setup && b && stores_fine && replies_fine) e)
    where
      go : (a : Bool) → false ≡ a && false && stores_fine && replies_fine
      go true = refl
      go false = refl

  pub gossip_broken3 : stores_fine ≡ false → false ≡ gossip_ok st g
  unfolding gossip_ok
  gossip_broken3 e =
      go (setup_ok g.setup) notes_fine ∙ sym (ap (λ (b : Bool). setup_ok g.setup && notes_fine && b && replies_fine) e)
    where
      go : (a d : Bool) → false ≡ a && d && false && replies_fine
      go true true = refl
      go true false = refl
      go false d = refl

  pub gossip_judged :
      (r : Bool) → setup_ok g.setup ≡ true → notes_fine ≡ true → stores_fine ≡ true → r ≡ replies_fine → r ≡ gossip_ok st g
  unfolding gossip_ok
  gossip_judged r a b d e =
      e
      ∙ sym (ap (λ (k : Bool). k && notes_fine && stores_fine && replies_fine) a
      ∙ ap (λ (k : Bool). k && stores_fine && replies_fine) b
      ∙ ap (λ (k : Bool). k && replies_fine) d)
