-- Test 12 of the replies, after each change.
-- Assumes nothing.
use Prim.Native.Nat.{ℕ, ◌+◌, ◌<◌, ◌≤◌}
use native.Mathlib.Omega.{arith}
use mathlib.Core.Path.{◌≡◌, refl, sym, ap, ◌∙◌}
use mathlib.Core.Bool.{Bool, true, false, cond, ◌&&◌}
use mathlib.Core.List.{List, [], ◌∷◌}
use lib.Dec.{eqb, leb}
use lib.ListN.{length, get_or, set, length-set, length-replicate}
use lib.Seq.{get_or-set_other}
use borrow.Author.Tests.{eqb-true, eqb-false, eq-eqb, ne_eqb, leb-true, le-leb}
use Rattle.index.specs.Index.{every}
use Rattle.index.proofs.Index.{both, every_at, every_by}
use Rattle.index.proofs.Flags.{by_test, cond_case}
use Rattle.index.proofs.Lists.{set_case}
use Rattle.records.specs.Records.{State, slot_count, peer_in, is_connected}
use Rattle.gossip.specs.Notes.{Row, rows_most, count_in, first_reply, one_more, replied, ended_row, ended, keep}
use Rattle.gossip.specs.Valid.{all, rises, count_most, row_ok, replies_ok}
use Rattle.gossip.proofs.ListLaws.{and_by, all_then}
use Rattle.gossip.proofs.RowLaws.{numbers, row_sized, replied_case, replied_first, ended_numbers, keep_kept, keep_rises, keep_length}
use Rattle.gossip.proofs.RowLaws.{ended_length, replied_all, replied_rises, blank, no_counts, first_counts}

-- ---- one row
abbrev within : State → ℕ → List ℕ → ℕ → Bool
within st most c s = leb (get_or c s 0) (count_most st most s)

module _ (st : State) (most : ℕ) (r : Row) where
  row_parts : row_ok st most r ≡ true → (row_sized r ≡ true) × ((s : ℕ) → s < slot_count → within st most r.counts s ≡ true)
  unfolding row_ok
  row_parts e =
      let q = both (row_sized r) (every slot_count (within st most r.counts)) e in
      (q.0, λ s l. every_at (within st most r.counts) slot_count s q.1 l)

  row_by : length r.counts ≡ slot_count → ((s : ℕ) → s < slot_count → within st most r.counts s ≡ true) → row_ok st most r ≡ true
  unfolding row_ok
  row_by a b = and_by (eq-eqb (length r.counts) slot_count a) (every_by (within st most r.counts) slot_count b)

  pub row_length : row_ok st most r ≡ true → length r.counts ≡ slot_count
  row_length e = eqb-true (length r.counts) slot_count (row_parts e).0

  pub row_count : row_ok st most r ≡ true → (s : ℕ) → s < slot_count → get_or r.counts s 0 ≤ count_most st most s
  row_count e s l = leb-true (get_or r.counts s 0) (count_most st most s) ((row_parts e).1 s l)

-- who is connected stays so
abbrev pub Remain : State → State → Type 0
Remain st u = (s : ℕ) → s < slot_count → is_connected (peer_in st s) ≡ true → is_connected (peer_in u s) ≡ true

most_more :
    (most : ℕ) (a b : Bool) (k : ℕ) → (a ≡ true → b ≡ true) → leb k (cond a most 0) ≡ true → leb k (cond b most 0) ≡ true
most_more most true b k h e = rw (h refl) e
most_more most false b k h e =
    le-leb k (cond b most 0) (let z = leb-true k 0 e in omega arith)

row_remain : (st u : State) (most : ℕ) → Remain st u → (r : Row) → row_ok st most r ≡ true → row_ok u most r ≡ true
row_remain st u most h r ok =
    row_by u most r (row_length st most r ok) (λ s l.
    most_more most (is_connected (peer_in st s)) (is_connected (peer_in u s)) (get_or r.counts s 0) (h s l)
    ((row_parts st most r ok).1 s l))

-- the connection in slot s ends: the others stay connected
row_ended :
    (st u : State) (most s : ℕ) →
    ((i : ℕ) → i < slot_count → (i ≡ s → ⊥) → is_connected (peer_in st i) ≡ true → is_connected (peer_in u i) ≡ true) →
    (r : Row) →
    row_ok st most r ≡ true →
    row_ok u most (ended_row s r) ≡ true
row_ended st u most s h r ok =
    row_by u most (ended_row s r) (length-set r.counts s 0 ∙ row_length st most r ok) (λ i l.
    by_test _ (eqb i s)
    (λ a.
    let q : i ≡ s = eqb-true i s a in
    ap (λ (k : ℕ). leb k (count_most u most i)) (ap (λ (k : ℕ). get_or (set r.counts s 0) k 0) q ∙ blank r.counts s)
    ∙ le-leb 0 (count_most u most i) (omega arith))
    (λ a.
    ap (λ (k : ℕ). leb k (count_most u most i)) (get_or-set_other r.counts s i 0 0 (eqb-false i s a))
    ∙ most_more most (is_connected (peer_in st i)) (is_connected (peer_in u i)) (get_or r.counts i 0) (h i l (eqb-false i s a))
    ((row_parts st most r ok).1 i l)))

-- one more for a connected slot that has not had all
row_more :
    (st : State) (most s : ℕ) →
    s < slot_count →
    is_connected (peer_in st s) ≡ true →
    (r : Row) →
    get_or r.counts s 0 < most →
    row_ok st most r ≡ true →
    row_ok st most (one_more r s) ≡ true
row_more st most s l on r room ok =
    let c = r.counts in
    row_by st most (one_more r s) (length-set c s (get_or c s 0 + 1) ∙ row_length st most r ok) (λ i k.
    set_case (λ (n : ℕ). leb n (count_most st most i) ≡ true) c s i (get_or c s 0 + 1) 0
    (λ (q : i ≡ s). rw (q, on) (le-leb (get_or c s 0 + 1) most (omega arith)))
    ((row_parts st most r ok).1 i k))

row_first :
    (st : State) (most s : ℕ) →
    s < slot_count →
    is_connected (peer_in st s) ≡ true →
    1 ≤ most →
    (n : ℕ) →
    row_ok st most (first_reply n s) ≡ true
row_first st most s l on room n = row_by st most (first_reply n s) long most_one
  where
    long : length (first_reply n s).counts ≡ slot_count
    long = length-set (no_counts slot_count) s 1 ∙ length-replicate {A = ℕ} slot_count 0

    most_one : (i : ℕ) → i < slot_count → within st most (first_reply n s).counts i ≡ true
    most_one i k =
        ap (λ (c : ℕ). leb c (count_most st most i)) (first_counts slot_count s i l)
        ∙ by_test _ (eqb i s)
        (λ a. let q : i ≡ s = eqb-true i s a in rw (a, q, on) (le-leb 1 most room))
        (λ a. rw a (le-leb 0 (count_most st most i) (omega arith)))

-- ---- all rows
module _ (st : State) (most : ℕ) where
  pub rows_sized : (l : List Row) → all (row_ok st most) l ≡ true → all row_sized l ≡ true
  rows_sized l a = all_then (row_ok st most) row_sized l (λ r e. (row_parts st most r e).0) a

  rows_ended :
      (u : State) (s : ℕ) →
      ((i : ℕ) → i < slot_count → (i ≡ s → ⊥) → is_connected (peer_in st i) ≡ true → is_connected (peer_in u i) ≡ true) →
      (l : List Row) →
      all (row_ok st most) l ≡ true →
      all (row_ok u most) (ended s l) ≡ true
  unfolding ended all
  rows_ended u s h [] a = refl
  rows_ended u s h (r ∷ l) a =
      let q = both (row_ok st most r) (all (row_ok st most) l) a in
      and_by (row_ended st u most s h r q.0) (rows_ended u s h l q.1)

  rows_keep : (f : ℕ → Bool) (l : List Row) → all (row_ok st most) l ≡ true → all (row_ok st most) (keep f l) ≡ true
  unfolding keep all
  rows_keep f [] a = refl
  rows_keep f (r ∷ l) a =
      let q = both (row_ok st most r) (all (row_ok st most) l) a in
      by_test _ (f r.number) (λ e. rw e (and_by q.0 (rows_keep f l q.1))) (λ e. rw e (rows_keep f l q.1))

  count_here : (r : Row) (l : List Row) (n s : ℕ) → n ≡ r.number → count_in (r ∷ l) n s ≡ get_or r.counts s 0
  unfolding count_in
  count_here r l n s e = rw (eq-eqb r.number n (sym e))

  count_past : (r : Row) (l : List Row) (n s : ℕ) → r.number < n → count_in (r ∷ l) n s ≡ count_in l n s
  unfolding count_in
  count_past r l n s e = rw (ne_eqb r.number n (λ (z : r.number ≡ n). omega arith))

  rows_replied :
      (n s : ℕ) →
      s < slot_count →
      is_connected (peer_in st s) ≡ true →
      (l : List Row) →
      count_in l n s < most →
      all (row_ok st most) l ≡ true →
      all (row_ok st most) (replied n s l) ≡ true
  unfolding all
  rows_replied n s h on [] room a =
      replied_first (λ (w : List Row). all (row_ok st most) w ≡ true) n s
      (and_by (row_first st most s h on (omega arith) n) refl)
  rows_replied n s h on (r ∷ l) room a =
      let q = both (row_ok st most r) (all (row_ok st most) l) a in
      replied_case (λ (w : List Row). all (row_ok st most) w ≡ true) n s r l
      (λ e. and_by (row_first st most s h on (omega arith) n) a)
      (λ e.
      let z = count_here r l n s e in
      and_by (row_more st most s h on r (omega arith) q.0) q.1)
      (λ e.
      let z = count_past r l n s e in
      and_by q.0 (rows_replied n s h on l (omega arith) q.1))

  -- no count beyond its most
  rows_count : (l : List Row) → all (row_ok st most) l ≡ true → (n s : ℕ) → s < slot_count → count_in l n s ≤ count_most st most s
  unfolding all count_in
  rows_count [] a n s h = omega arith
  rows_count (r ∷ l) a n s h =
      let q = both (row_ok st most r) (all (row_ok st most) l) a in
      cond_case (λ (k : ℕ). k ≤ count_most st most s) (eqb r.number n) (get_or r.counts s 0) (count_in l n s)
      (λ e. row_count st most r q.0 s h)
      (λ e. rows_count l q.1 n s h)

-- ---- the replies in parts
module _ (st : State) (most : ℕ) (f : ℕ → Bool) (l : List Row) where
  pub replies_parts :
      replies_ok st most f l ≡ true →
      (length l ≤ rows_most) × (rises (numbers l) ≡ true) × (all f (numbers l) ≡ true) × (all (row_ok st most) l ≡ true)
  unfolding replies_ok
  replies_parts e =
      let q = both (leb (length l) rows_most && rises (numbers l) && all f (numbers l)) (all (row_ok st most) l) e in
      let r = both (leb (length l) rows_most && rises (numbers l)) (all f (numbers l)) q.0 in
      let s = both (leb (length l) rows_most) (rises (numbers l)) r.0 in
      (leb-true (length l) rows_most s.0, s.1, r.1, q.1)

  pub replies_by :
      length l ≤ rows_most →
      rises (numbers l) ≡ true →
      all f (numbers l) ≡ true →
      all (row_ok st most) l ≡ true →
      replies_ok st most f l ≡ true
  unfolding replies_ok
  replies_by a b c d = and_by (and_by (and_by (le-leb (length l) rows_most a) b) c) d

pub replies_none : (st : State) (most : ℕ) (f : ℕ → Bool) → replies_ok st most f [] ≡ true
unfolding rises all
replies_none st most f = replies_by st most f [] (omega arith) refl refl refl

module _ (st : State) (most : ℕ) (f : ℕ → Bool) (l : List Row) (ok : replies_ok st most f l ≡ true) where
  parts : (length l ≤ rows_most) × (rises (numbers l) ≡ true) × (all f (numbers l) ≡ true) × (all (row_ok st most) l ≡ true)
  parts = replies_parts st most f l ok

  -- who was connected is so, and what was stored is stored
  pub replies_remain :
      (u : State) (h : ℕ → Bool) → Remain st u → ((n : ℕ) → f n ≡ true → h n ≡ true) → replies_ok u most h l ≡ true
  replies_remain u h on more =
      replies_by u most h l parts.0 parts.1
      (all_then f h (numbers l) more parts.2)
      (all_then (row_ok st most) (row_ok u most) l (row_remain st u most on) parts.3)

  -- only rows of stored numbers are left
  pub replies_keep : (h : ℕ → Bool) → replies_ok st most h (keep h l) ≡ true
  replies_keep h =
      replies_by st most h (keep h l)
      (let z = keep_length h l in let y = parts.0 in omega arith)
      (keep_rises h l parts.1)
      (keep_kept h l)
      (rows_keep st most h l parts.3)

  -- a connection ends, and with it its counts
  pub replies_ended :
      (u : State) (s : ℕ) →
      ((i : ℕ) → i < slot_count → (i ≡ s → ⊥) → is_connected (peer_in st i) ≡ true → is_connected (peer_in u i) ≡ true) →
      replies_ok u most f (ended s l) ≡ true
  replies_ended u s h =
      replies_by u most f (ended s l)
      (let z = ended_length s l in let y = parts.0 in omega arith)
      (ap rises (ended_numbers s l) ∙ parts.1)
      (ap (all f) (ended_numbers s l) ∙ parts.2)
      (rows_ended st most u s h l parts.3)

  -- a reply
  pub replies_replied :
      (n s : ℕ) →
      s < slot_count →
      is_connected (peer_in st s) ≡ true →
      f n ≡ true →
      count_in l n s < most →
      length (replied n s l) ≤ rows_most →
      replies_ok st most f (replied n s l) ≡ true
  replies_replied n s h on e room long =
      replies_by st most f (replied n s l) long
      (replied_rises n s l parts.1)
      (replied_all f n s l e parts.2)
      (rows_replied st most n s h on l room parts.3)

  -- ---- what they say
  pub replies_sized : all row_sized l ≡ true
  replies_sized = rows_sized st most l parts.3

  pub replies_most : (n s : ℕ) → s < slot_count → count_in l n s ≤ count_most st most s
  replies_most = rows_count st most l parts.3

  -- who is not connected has no replies
  pub replies_silent : (s : ℕ) → s < slot_count → ((peer_in st s).status ≡ 1 → ⊥) → (n : ℕ) → count_in l n s ≡ 0
  replies_silent s h off n =
      let z : count_most st most s ≡ 0 = rw (ne_eqb (peer_in st s).status 1 off) in
      let y = replies_most n s h in
      omega arith
