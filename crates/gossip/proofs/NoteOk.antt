-- Test 12 of one note and of one store, after each change.
-- Assumes nothing.
use Prim.Native.Nat.{ℕ, suc, ◌+◌, ◌≤◌}
use native.Mathlib.Omega.{arith}
use mathlib.Core.Path.{◌≡◌, refl, sym}
use mathlib.Core.Bool.{Bool, true, false, not, ◌&&◌, ◌||◌}
use mathlib.Core.List.{List, [], ◌∷◌, ◌++◌, map}
use lib.Dec.{eqb, leb, ltb}
use lib.ListN.{length, length-append}
use borrow.Author.Tests.{eqb-true, eq-eqb, ne_eqb, leb-true, le-leb, ltb-true}
use Rattle.index.proofs.Index.{both}
use Rattle.index.proofs.Flags.{by_test}
use Rattle.records.specs.declared.Peer.{Peer}
use Rattle.records.specs.Records.{is_empty, is_connected}
use Rattle.sets.specs.Sets.{occurs}
use Rattle.gossip.specs.Notes.{Setup, Entry, Note, set_most, window_most, no_note, no_store, has, number_of, holds, stored_in, put_in, aged}
use Rattle.gossip.specs.Notes.{moved, added}
use Rattle.gossip.specs.Valid.{all, none, rises, apart, flat, entry_ok, set_ok, counts_ok, note_ok, window_ok, store_ok}
use Rattle.gossip.specs.Step.{with_put, has_room, beaten, running, with_ihave, parted}
use Rattle.gossip.proofs.ListLaws.{and_by, or_true, clash, apart_at, apart_by, stored_flat, occurs_added, occurs_take}
use Rattle.gossip.proofs.ListLaws.{windows_take, put_length, put_all, put_rises, aged_length, aged_rises, aged_entries}

-- ---- a note in parts
module _ (p : Setup) (peer : Peer) (n : Note) where
  pub note_parts :
      note_ok p peer n ≡ true → (set_ok (is_connected peer) n.held ≡ true) × (counts_ok p (is_empty peer) n ≡ true)
  unfolding note_ok
  note_parts e = both (set_ok (is_connected peer) n.held) (counts_ok p (is_empty peer) n) e

  pub note_by :
      set_ok (is_connected peer) n.held ≡ true → counts_ok p (is_empty peer) n ≡ true → note_ok p peer n ≡ true
  unfolding note_ok
  note_by a c = and_by a c

module _ (on : Bool) (l : List Entry) where
  pub set_parts :
      set_ok on l ≡ true →
      (leb (length l) set_most ≡ true) × (rises (map number_of l) ≡ true) × (all entry_ok l ≡ true) × (on || none l ≡ true)
  unfolding set_ok
  set_parts e =
      let q = both (leb (length l) set_most && rises (map number_of l) && all entry_ok l) (on || none l) e in
      let r = both (leb (length l) set_most && rises (map number_of l)) (all entry_ok l) q.0 in
      let s = both (leb (length l) set_most) (rises (map number_of l)) r.0 in
      (s.0, s.1, r.1, q.1)

  pub set_by :
      leb (length l) set_most ≡ true →
      rises (map number_of l) ≡ true →
      all entry_ok l ≡ true →
      on || none l ≡ true →
      set_ok on l ≡ true
  unfolding set_ok
  set_by a b c d = and_by (and_by (and_by a b) c) d

aged_none : (b : Bool) (l : List Entry) → b || none l ≡ true → b || none (aged l) ≡ true
unfolding aged
aged_none true l e = refl
aged_none false [] e = refl
aged_none false (k ∷ l) e = clash refl (sym e)

-- ---- sets
pub set_none : (on : Bool) → set_ok on [] ≡ true
unfolding set_ok rises all
set_none on = or_true on

pub set_put :
    (on : Bool) (l : List Entry) (k : ℕ) →
    set_ok on l ≡ true →
    on ≡ true →
    has k (map number_of l) ≡ false →
    ltb (length l) set_most ≡ true →
    set_ok on (put_in k l) ≡ true
set_put on l k ok up out room =
    let a = set_parts on l ok in
    set_by on (put_in k l)
    (le-leb (length (put_in k l)) 32 (let y = put_length k l in let z = ltb-true (length l) 32 room in omega arith))
    (put_rises k l out a.1)
    (put_all entry_ok k l refl a.2)
    (rw up)

pub set_aged : (on : Bool) (l : List Entry) → set_ok on l ≡ true → set_ok on (aged l) ≡ true
set_aged on l ok =
    let a = set_parts on l ok in
    set_by on (aged l)
    (le-leb (length (aged l)) 32 (let y = aged_length l in let z = leb-true (length l) 32 a.0 in omega arith))
    (aged_rises l a.1)
    (aged_entries l a.2)
    (aged_none on l a.3)

-- ---- notes
-- "empty records are all zero": nothing is held, nothing counts
pub note_none : (p : Setup) (peer : Peer) → note_ok p peer no_note ≡ true
note_none p peer =
    note_by p peer no_note (set_none (is_connected peer))
    (and_by (and_by (le-leb 0 p.limit (omega arith)) (le-leb 0 p.ihaves (omega arith))) (or_true (not (is_empty peer))))

module _ (p : Setup) (peer : Peer) (n : Note) (ok : note_ok p peer n ≡ true) where
  parts : (set_ok (is_connected peer) n.held ≡ true) × (counts_ok p (is_empty peer) n ≡ true)
  parts = note_parts p peer n ok

  -- by the status of the peer alone
  pub note_peer : (q : Peer) → q.status ≡ peer.status → note_ok p q n ≡ true
  unfolding note_ok
  note_peer q e = rw e ok

  -- a peer that comes to be connected
  pub note_connected : (q : Peer) → q.status ≡ 1 → note_ok p q n ≡ true
  note_connected q e =
      let a = set_parts (is_connected peer) n.held parts.0 in
      let c = both (leb n.puts p.limit && leb n.ihaves p.ihaves) _ parts.1 in
      let on : is_connected q ≡ true = eq-eqb q.status 1 e in
      let full : is_empty q ≡ false = ne_eqb q.status 0 (λ (z : q.status ≡ 0). omega arith) in
      note_by p q n
      (set_by (is_connected q) n.held a.0 a.1 a.2 (rw on))
      (and_by c.0 (rw full))

  -- a disconnect: the counts stay
  pub note_parted : (q : Peer) → q.status ≡ 2 → note_ok p q (parted n) ≡ true
  note_parted q e =
      let c = both (leb n.puts p.limit && leb n.ihaves p.ihaves) _ parts.1 in
      let full : is_empty q ≡ false = ne_eqb q.status 0 (λ (z : q.status ≡ 0). omega arith) in
      note_by p q (parted n) (set_none (is_connected q)) (and_by c.0 (rw full))

  -- a heartbeat
  pub note_beaten : note_ok p peer (beaten n) ≡ true
  note_beaten =
      note_by p peer (beaten n) (set_aged (is_connected peer) n.held parts.0)
      (and_by
      (and_by (le-leb 0 p.limit (omega arith)) (le-leb 0 p.ihaves (omega arith)))
      (or_true (not (is_empty peer))))

  module _ (on : peer.status ≡ 1) where
    connected : is_connected peer ≡ true
    connected = eq-eqb peer.status 1 on

    used : is_empty peer ≡ false
    used = ne_eqb peer.status 0 (λ (z : peer.status ≡ 0). omega arith)

    low : (leb n.puts p.limit ≡ true) × (leb n.ihaves p.ihaves ≡ true)
    low =
        both (leb n.puts p.limit) (leb n.ihaves p.ihaves)
        (both (leb n.puts p.limit && leb n.ihaves p.ihaves) _ parts.1).0

    -- an IDONTWANT
    pub note_put : (k : ℕ) → holds n k ≡ false → has_room p n ≡ true → note_ok p peer (with_put k n) ≡ true
    unfolding holds
    note_put k out room =
        let b = both (ltb n.puts p.limit) (ltb (length n.held) set_most) room in
        note_by p peer (with_put k n)
        (set_put (is_connected peer) n.held k parts.0 connected out b.1)
        (and_by
        (and_by (le-leb (n.puts + 1) p.limit (let z = ltb-true n.puts p.limit b.0 in omega arith)) low.1)
        (rw used))

    -- an IHAVE
    pub note_ihave : ltb n.ihaves p.ihaves ≡ true → note_ok p peer (with_ihave n) ≡ true
    note_ihave room =
        note_by p peer (with_ihave n) parts.0
        (and_by
        (and_by low.0 (le-leb (n.ihaves + 1) p.ihaves (let z = ltb-true n.ihaves p.ihaves room in omega arith)))
        (rw used))

-- ---- a store in parts
pub store_parts :
    (on : Bool) (w : List (List ℕ)) →
    store_ok on w ≡ true →
    (all window_ok w ≡ true) × (apart (flat w) ≡ true) × (on || none (flat w) ≡ true)
unfolding store_ok
store_parts on w e =
    let q = both (all window_ok w && apart (flat w)) (on || none (flat w)) e in
    let r = both (all window_ok w) (apart (flat w)) q.0 in
    (r.0, r.1, q.1)

pub store_by :
    (on : Bool) (w : List (List ℕ)) →
    all window_ok w ≡ true →
    apart (flat w) ≡ true →
    on || none (flat w) ≡ true →
    store_ok on w ≡ true
unfolding store_ok
store_by on w a b c = and_by (and_by a b) c

pub store_none : (on : Bool) → store_ok on no_store ≡ true
unfolding store_ok all apart flat
store_none on = or_true on

added_windows :
    (m : ℕ) (w : List (List ℕ)) → all window_ok w ≡ true → ltb (running w) window_most ≡ true → all window_ok (added m w) ≡ true
unfolding added all
added_windows m [] a room = refl
added_windows m (x ∷ w) a room =
    let q = both (window_ok x) (all window_ok w) a in
    let z = ltb-true (length x) window_most room in
    and_by (le-leb (length (x ++ (m ∷ []))) window_most (omega (arith, length-append x (m ∷ [])))) q.1

module _ (on : Bool) (w : List (List ℕ)) (ok : store_ok on w ≡ true) where
  pub store_joined : store_ok true w ≡ true
  store_joined = let q = store_parts on w ok in store_by true w q.0 q.1 refl

  fewer_none : (b : Bool) (l m : List ℕ) → ((n : ℕ) → occurs n m ≤ occurs n l) → b || none l ≡ true → b || none m ≡ true
  unfolding occurs
  fewer_none true l m h e = refl
  fewer_none false [] [] h e = refl
  fewer_none false [] (n ∷ m) h e =
      let a : suc (occurs n m) ≤ 0 = rw (eq-eqb n n refl) at (h n) in
      absurd (omega arith)
  fewer_none false (k ∷ l) m h e = let z : ◌≡◌ {A = ℕ} 0 1 = cc in absurd (omega arith)

  moved_most : (n : ℕ) → occurs n (flat (moved w)) ≤ occurs n (flat w)
  unfolding moved flat
  moved_most n = occurs_take 4 n w

  moved_windows : all window_ok w ≡ true → all window_ok (moved w) ≡ true
  unfolding moved all
  moved_windows a = windows_take 4 w a

  pub store_moved : store_ok on (moved w) ≡ true
  store_moved =
      let q = store_parts on w ok in
      let l = flat w in
      store_by on (moved w) (moved_windows q.0)
      (apart_by (flat (moved w)) (λ n. let a = apart_at l q.1 n in let b = moved_most n in omega arith))
      (fewer_none on l (flat (moved w)) moved_most q.2)

  pub store_added :
      (m : ℕ) →
      on ≡ true →
      stored_in w m ≡ false →
      ltb (running w) window_most ≡ true →
      store_ok on (added m w) ≡ true
  unfolding occurs
  store_added m joined out room =
      let q = store_parts on w ok in
      let l = flat w in
      store_by on (added m w) (added_windows m w q.0 room)
      (apart_by (flat (added m w)) (λ n.
      let a = apart_at l q.1 n in
      let b = occurs_added m n w in
      by_test _ (eqb m n)
      (λ y.
      let i : m ≡ n = eqb-true m n y in
      let z : occurs n l ≡ 0 = rw i at (stored_flat w m out) in
      let c : occurs n (m ∷ []) ≡ 1 = rw y in
      omega arith)
      (λ y. let c : occurs n (m ∷ []) ≡ 0 = rw y in omega arith)))
      (rw joined)
