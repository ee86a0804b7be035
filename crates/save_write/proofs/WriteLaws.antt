-- Numbers written one after the other: after each, the bytes of those before it and its own stand in the buffer.
-- Assumes nothing.
use Rattle.std.proofs.Common.{Option, Some, None}
use Prim.Native.Nat.{ℕ, suc, ◌+◌, ◌/◌, ◌<◌, ◌≤◌}
use native.Mathlib.Omega.{arith}
use native.Mathlib.Numerals.{add-one}
use mathlib.Core.Path.{◌≡◌, refl, sym, ap, ◌∙◌}
use mathlib.Core.List.{List, [], ◌∷◌, ◌++◌, map, append_assoc, append-nil}
use lib.ListN.{length, get_or, take, drop, length-append, take-append-drop}
use lib.Seq.{take-suc, take_all, length-sets}
use Rattle.index.proofs.Lists.{sets_append}
use Rattle.varint.specs.Groups.{encode, put_of}
use Rattle.varint.proofs.GroupLaws.{put_fits, put_next, put_full, length_last, length_more, length_le}
use Rattle.records.specs.Records.{State, place}
use Rattle.rows.specs.Rows.{joins}
use Rattle.saves.specs.Save.{saved_row, order, body_of, numbers_of, bytes_of, save_of, edition}
use Rattle.save_write.specs.Keys.{slot_of}
use Rattle.save_write.specs.Stands.{rows_of, Stands}

-- ---- bytes of lists
pub bytes_append : (l m : List ℕ) → bytes_of (l ++ m) ≡ bytes_of l ++ bytes_of m
unfolding bytes_of
bytes_append [] m = refl
bytes_append (n ∷ l) m = ap (λ (k : List ℕ). encode n ++ k) (bytes_append l m) ∙ sym (append_assoc (encode n) (bytes_of l) (bytes_of m))

bytes_one : (n : ℕ) → bytes_of (n ∷ []) ≡ encode n
unfolding bytes_of
bytes_one n = append-nil (encode n)

pub bytes_more : (l : List ℕ) (i : ℕ) → i < length l → bytes_of (take (i + 1) l) ≡ bytes_of (take i l) ++ encode (get_or l i 0)
bytes_more l i h =
    ap (λ (k : ℕ). bytes_of (take k l)) (add-one i)
    ∙ ap bytes_of (take-suc l i 0 h)
    ∙ bytes_append (take i l) (get_or l i 0 ∷ [])
    ∙ ap (λ (m : List ℕ). bytes_of (take i l) ++ m) (bytes_one (get_or l i 0))

-- a front takes no more than the whole
pub bytes_front : (l : List ℕ) (i : ℕ) → length (bytes_of (take i l)) ≤ length (bytes_of l)
bytes_front l i =
    let e : length (bytes_of l) ≡ length (bytes_of (take i l)) + length (bytes_of (drop i l)) =
    ap (λ (m : List ℕ). length (bytes_of m)) (sym (take-append-drop i l))
    ∙ ap length (bytes_append (take i l) (drop i l))
    ∙ length-append (bytes_of (take i l)) (bytes_of (drop i l)) in
    omega arith

-- ---- sizes
pub short : (n : ℕ) → n < 18446744073709551616 → length (encode n) ≤ 10
short n h = length_le 9 n (omega arith)

pub size_none : (n : ℕ) → n < 128 → (1 ≡ length (encode n)) × (1 ≤ 10)
size_none n h = (sym (length_last n h), omega arith)

pub size_more : (n r : ℕ) → n < 18446744073709551616 → 128 ≤ n → r ≡ length (encode (n / 128)) → (r + 1 ≡ length (encode n)) × (r + 1 ≤ 10)
size_more n r b h e =
    let q : r + 1 ≡ length (encode n) = omega (arith, length_more n h) in
    (q, let s = short n b in omega arith)

pub sum_more : (l : List ℕ) (i sum r : ℕ) → i < length l → sum ≡ length (bytes_of (take i l)) → r ≡ length (encode (get_or l i 0)) → sum + r
    ≡ length (bytes_of (take (i + 1) l))
sum_more l i sum r h e f =
    omega (arith, ap length (bytes_more l i h), length-append (bytes_of (take i l)) (encode (get_or l i 0)))

pub sum_none : (l : List ℕ) → 0 ≡ length (bytes_of (take 0 l))
unfolding bytes_of
sum_none l = refl

pub sum_all : (l : List ℕ) (i sum : ℕ) → length l ≤ i → sum ≡ length (bytes_of (take i l)) → sum ≡ length (bytes_of l)
sum_all l i sum h e = e ∙ ap (λ (m : List ℕ). length (bytes_of m)) (take_all i l h)

-- ---- writing
pub stands_none : (from : ℕ) (buf : List ℕ) → Stands [] from buf from buf
stands_none from buf = record { end = omega arith; left = refl }

module _ (l : List ℕ) (from : ℕ) (buf : List ℕ) (place : ℕ) (out : List ℕ) (s : Stands l from buf place out) where
  same_long : length out ≡ length buf
  same_long = ap length s.left ∙ length-sets buf from l

  pub stands_then : (m : List ℕ) (next : ℕ) (out' : List ℕ) → Stands m place out next out' → Stands (l ++ m) from buf next out'
  stands_then m next out' t =
      record {
        end = omega (arith, s.end, t.end, length-append l m);
        left = t.left ∙ rw (s.left, s.end) (sym (sets_append buf from l m));
      }

  module _ (n : ℕ) (r : Option ℕ) (out' : List ℕ) (w : (r ≡ (put_of out place n).answer) × (out' ≡ (put_of out place n).bytes)) where
    pub never_full : {A : Type 0} → from + (length l + length (encode n)) ≤ length buf → r ≡ None → A
    never_full h e = absurd (omega (arith, s.end, same_long, put_full out place n (sym e ∙ w.0)))

    pub stands_number : (next : ℕ) → r ≡ Some next → Stands (l ++ encode n) from buf next out'
    stands_number next e =
        let q = put_next out place n next (sym e ∙ w.0) in
        let f = put_fits out place n (omega arith) in
        stands_then (encode n) next out' (record { end = q.0; left = w.1 ∙ sym f.1 })

module _ (l : List ℕ) (from : ℕ) (buf : List ℕ) (i place : ℕ) (out : List ℕ) (s : Stands (bytes_of (take i l)) from buf place out)
    (h : i < length l) (room : from + length (bytes_of l) ≤ length buf)
    (r : Option ℕ) (out' : List ℕ) (w : (r ≡ (put_of out place (get_or l i 0)).answer) × (out' ≡ (put_of out place (get_or l i 0)).bytes)) where
  fits : from + (length (bytes_of (take i l)) + length (encode (get_or l i 0))) ≤ length buf
  fits =
      let e = ap length (bytes_more l i h) ∙ length-append (bytes_of (take i l)) (encode (get_or l i 0)) in
      let b = bytes_front l (i + 1) in
      omega arith

  pub row_full : {A : Type 0} → r ≡ None → A
  row_full = never_full (bytes_of (take i l)) from buf place out s (get_or l i 0) r out' w fits

  pub row_more : (next : ℕ) → r ≡ Some next → Stands (bytes_of (take (i + 1) l)) from buf next out'
  row_more next e =
      rw (bytes_more l i h) (stands_number (bytes_of (take i l)) from buf place out s (get_or l i 0) r out' w next e)

pub row_none : (l : List ℕ) (from : ℕ) (buf : List ℕ) → Stands (bytes_of (take 0 l)) from buf from buf
unfolding bytes_of
row_none l from buf = stands_none from buf

pub row_all :
    (l : List ℕ) (from : ℕ) (buf : List ℕ) (i place : ℕ) (out : List ℕ) → length l ≤ i → Stands (bytes_of (take i l)) from buf place out →
    Stands (bytes_of l) from buf place out
row_all l from buf i place out h s = rw (take_all i l h) at s

-- ---- the records by their keys
module _ (st : State) (time : ℕ) where
  joins_append : (l m : List ℕ) → rows_of st time (l ++ m) ≡ rows_of st time l ++ rows_of st time m
  unfolding joins
  joins_append [] m = refl
  joins_append (x ∷ l) m =
      ap (λ (k : List ℕ). saved_row st time (slot_of x) ++ k) (joins_append l m)
      ∙ sym (append_assoc (saved_row st time (slot_of x)) (rows_of st time l) (rows_of st time m))

  joins_one : (x : ℕ) → rows_of st time (x ∷ []) ≡ saved_row st time (slot_of x)
  unfolding joins
  joins_one x = append-nil (saved_row st time (slot_of x))

  pub rows_more :
      (keys : List ℕ) (k : ℕ) → k < length keys → bytes_of (rows_of st time (take (k + 1) keys))
      ≡ bytes_of (rows_of st time (take k keys)) ++ bytes_of (saved_row st time (slot_of (get_or keys k 0)))
  rows_more keys k h =
      ap (λ (n : ℕ). bytes_of (rows_of st time (take n keys))) (add-one k)
      ∙ ap (λ (l : List ℕ). bytes_of (rows_of st time l)) (take-suc keys k 0 h)
      ∙ ap bytes_of (joins_append (take k keys) (get_or keys k 0 ∷ []))
      ∙ bytes_append (rows_of st time (take k keys)) (rows_of st time (get_or keys k 0 ∷ []))
      ∙ ap (λ (l : List ℕ). bytes_of (rows_of st time (take k keys)) ++ bytes_of l) (joins_one (get_or keys k 0))

  pub rows_front : (keys : List ℕ) (k : ℕ) → length (bytes_of (rows_of st time (take k keys))) ≤ length (bytes_of (rows_of st time keys))
  rows_front keys k =
      let e : length (bytes_of (rows_of st time keys))
      ≡ length (bytes_of (rows_of st time (take k keys))) + length (bytes_of (rows_of st time (drop k keys))) =
      ap (λ (m : List ℕ). length (bytes_of (rows_of st time m))) (sym (take-append-drop k keys))
      ∙ ap (λ (m : List ℕ). length (bytes_of m)) (joins_append (take k keys) (drop k keys))
      ∙ ap length (bytes_append (rows_of st time (take k keys)) (rows_of st time (drop k keys)))
      ∙ length-append (bytes_of (rows_of st time (take k keys))) (bytes_of (rows_of st time (drop k keys))) in
      omega arith

  joins_map : (keys : List ℕ) → rows_of st time keys ≡ joins (saved_row st time) (map slot_of keys)
  unfolding joins
  joins_map [] = refl
  joins_map (x ∷ keys) = ap (λ (k : List ℕ). saved_row st time (slot_of x) ++ k) (joins_map keys)

  length_slots : (keys : List ℕ) → length (map slot_of keys) ≡ length keys
  length_slots [] = refl
  length_slots (x ∷ keys) = ap suc (length_slots keys)

  -- the whole save
  pub save_is : (keys : List ℕ) → map slot_of keys ≡ order st time →
      save_of st time ≡ bytes_of (edition ∷ length keys ∷ []) ++ bytes_of (rows_of st time keys)
  unfolding save_of numbers_of body_of
  save_is keys e =
      ap (λ (l : List ℕ). bytes_of (edition ∷ length l ∷ joins (saved_row st time) l)) (sym e)
      ∙ ap (λ (n : ℕ). bytes_of (edition ∷ n ∷ joins (saved_row st time) (map slot_of keys))) (length_slots keys)
      ∙ ap (λ (l : List ℕ). bytes_of (edition ∷ length keys ∷ l)) (sym (joins_map keys))
      ∙ bytes_append (edition ∷ length keys ∷ []) (rows_of st time keys)

-- ---- the turns of `rows_size` and `put_rows`
module _
    (st : State)
    (time : ℕ)
    (keys : List ℕ)
    (k slot : ℕ)
    (row : List ℕ)
    (h : k < length keys)
    (es : slot ≡ slot_of (get_or keys k 0))
    (er : row ≡ saved_row st time slot)
  where
    abbrev done : List ℕ
    done = bytes_of (rows_of st time (take k keys))

    row_is : bytes_of (rows_of st time (take (k + 1) keys)) ≡ done ++ bytes_of row
    row_is =
        rows_more st time keys k h
        ∙ ap (λ (n : ℕ). done ++ bytes_of (saved_row st time n)) (sym es)
        ∙ ap (λ (l : List ℕ). done ++ bytes_of l) (sym er)

    pub rows_sum : (sum r : ℕ) → sum ≡ length done → r ≡ length (bytes_of row) →
        sum + r ≡ length (bytes_of (rows_of st time (take (k + 1) keys)))
    rows_sum sum r e f = omega (arith, ap length row_is, length-append done (bytes_of row))

    module _ (from : ℕ) (buf : List ℕ) (place : ℕ) (out : List ℕ) (s : Stands done from buf place out) where
      pub rows_room : from + length (bytes_of (rows_of st time keys)) ≤ length buf → place + length (bytes_of row) ≤ length out
      rows_room room =
          let e = ap length row_is ∙ length-append done (bytes_of row) in
          let b = rows_front st time keys (k + 1) in
          omega (arith, s.end, same_long done from buf place out s)

      pub rows_put : (next : ℕ) (out' : List ℕ) → Stands (bytes_of row) place out next out' →
          Stands (bytes_of (rows_of st time (take (k + 1) keys))) from buf next out'
      rows_put next out' t = rw row_is (stands_then done from buf place out s (bytes_of row) next out' t)

module _ (st : State) (time : ℕ) (keys : List ℕ) where
  pub rows_start : 0 ≡ length (bytes_of (rows_of st time (take 0 keys)))
  unfolding bytes_of joins
  rows_start = refl

  pub rows_begin : (from : ℕ) (buf : List ℕ) → Stands (bytes_of (rows_of st time (take 0 keys))) from buf from buf
  unfolding bytes_of joins
  rows_begin from buf = stands_none from buf

  pub rows_total : (k sum : ℕ) → length keys ≤ k → sum ≡ length (bytes_of (rows_of st time (take k keys))) →
      sum ≡ length (bytes_of (rows_of st time keys))
  rows_total k sum h e = e ∙ ap (λ (l : List ℕ). length (bytes_of (rows_of st time l))) (take_all k keys h)

  pub rows_written :
      (from : ℕ) (buf : List ℕ) (k place : ℕ) (out : List ℕ) → length keys ≤ k →
      Stands (bytes_of (rows_of st time (take k keys))) from buf place out →
      Stands (bytes_of (rows_of st time keys)) from buf place out
  rows_written from buf k place out h s = rw (take_all k keys h) at s
