-- Rows in cells: what a row reads, and what a store, a run of stores and a change of the rows in use leave of every row.
-- Assumes nothing.
use Prim.Native.Nat.{ℕ, zero, suc, ◌+◌, ◌/◌, ◌%◌, ◌≤◌, ◌<◌}
use mathlib.Core.Path.{◌≡◌, refl, sym, ap, ◌∙◌}
use mathlib.Core.Logic.{◌≢◌}
use mathlib.Core.List.{List, map}
use native.Mathlib.Nat.{not-suc-le-zero, le_of_suc-le-suc, add-zero}
use native.Mathlib.Omega.{arith}
use lib.ListN.{length, get_or, set, replicate, length-set}
use lib.Seq.{get_or-set_same, get_or-set_other}
use Rattle.index.proofs.Flags.{by_order}
use Rattle.records.specs.Records.{slot_count}
use Rattle.layout.specs.Rows.{tab}
use Rattle.layout.specs.View.{table}
use Rattle.layout.proofs.RowLaws.{length_tab, get_or_tab, tab_same, tab_set, tab_const}
use Rattle.layout.proofs.BitLaws.{by_same}
use Rattle.layout.proofs.ViewLaws.{table_same, table_set, get_or_table}
use Rattle.gossip.specs.Notes.{Row, one_more}
use Rattle.gossip.specs.Cells.{Run}
use Rattle.gossip.specs.Valid.{row_number}
use Rattle.replies.specs.View.{replies_cells, rows_in, start_of, lane_in, lane_at, row_from, row_at, replies_of, LaneSet, RowSet}
use Rattle.replies.proofs.LaneLaws.{lane_zero}
use Rattle.replies.proofs.ListLaws.{number_at}

-- ---- reading

pub rows_length : (c : List ℕ) → length (replies_of c) ≡ rows_in c
unfolding replies_of
rows_length c = length_tab (rows_in c) (row_at c)

pub row_load : (c : List ℕ) (r : ℕ) (d : Row) → r < rows_in c → get_or (replies_of c) r d ≡ row_at c r
unfolding replies_of
row_load c r d h = get_or_tab (rows_in c) (row_at c) r d h

numbers_tab : (u : ℕ) (f : ℕ → Row) (k : ℕ) → k < u → get_or (map row_number (tab u f)) k 0 ≡ (f k).number
numbers_tab zero f k h = absurd (not-suc-le-zero h)
numbers_tab (suc u) f zero h = refl
numbers_tab (suc u) f (suc k) h = numbers_tab u (λ i. f (suc i)) k (le_of_suc-le-suc h)

pub number_load : (c : List ℕ) (r : ℕ) → r < rows_in c → number_at (replies_of c) r ≡ get_or c (start_of r) 0
unfolding replies_of row_at row_from
number_load c r h = numbers_tab (rows_in c) (row_at c) r h

pub number_is : (c : List ℕ) (r : ℕ) → (row_at c r).number ≡ get_or c (start_of r) 0
unfolding row_at row_from
number_is c r = refl

pub count_load : (c : List ℕ) (r s : ℕ) → s < slot_count → get_or (row_at c r).counts s 0 ≡ lane_at c (start_of r) s
unfolding row_at row_from
count_load c r s h = get_or_table slot_count (lane_at c (start_of r)) s 0 h

lane_at_lem : (c : List ℕ) (b s : ℕ) → lane_in (get_or c (b + (2 + s / 10)) 0) (s % 10) ≡ lane_at c b s
unfolding lane_at
lane_at_lem c b s = refl

pub count_lane :
    (c : List ℕ) (r s : ℕ) → s < slot_count → lane_in (get_or c (start_of r + (2 + s / 10)) 0) (s % 10) ≡ get_or (row_at c r).counts s 0
count_lane c r s h = lane_at_lem c (start_of r) s ∙ sym (count_load c r s h)

-- ---- what a row depends on

pub lane_cong :
    (c d : List ℕ) (a b s : ℕ) → get_or d (b + (2 + s / 10)) 0 ≡ get_or c (a + (2 + s / 10)) 0 → lane_at d b s ≡ lane_at c a s
unfolding lane_at
lane_cong c d a b s e = ap (λ (x : ℕ). lane_in x (s % 10)) e

row_parts :
    (c d : List ℕ) (a b : ℕ) →
    get_or d b 0 ≡ get_or c a 0 →
    table slot_count (lane_at d b) ≡ table slot_count (lane_at c a) →
    row_from d b ≡ row_from c a
unfolding row_from
row_parts c d a b e f = λ i. record { number = e i; counts = f i }

pub row_cong :
    (c d : List ℕ) (a b : ℕ) →
    get_or d b 0 ≡ get_or c a 0 →
    ((k : ℕ) → k < 26 → get_or d (b + (2 + k)) 0 ≡ get_or c (a + (2 + k)) 0) →
    row_from d b ≡ row_from c a
row_cong c d a b e f =
    row_parts c d a b e
    (table_same slot_count (lane_at d b) (lane_at c a) (λ s h. lane_cong c d a b s (f (s / 10) (omega arith))))

pub row_set_rows : (c d : List ℕ) (r : ℕ) (row : Row) → RowSet c d r row → replies_of d ≡ set (replies_of c) r row
unfolding replies_of
row_set_rows c d r row t =
    ap (λ (u : ℕ). tab u (row_at d)) t.rows
    ∙ tab_set (rows_in c) (row_at c) (row_at d) r row t.here (λ k l n. t.others k n)

-- ---- a run of cells written

-- cells outside row r alone are left as they are
pub others_stay :
    (c d : List ℕ) (r : ℕ) →
    ((x : ℕ) → x < start_of r → get_or d x 0 ≡ get_or c x 0) →
    ((x : ℕ) → start_of r + 28 ≤ x → get_or d x 0 ≡ get_or c x 0) →
    (k : ℕ) →
    k ≢ r →
    row_at d k ≡ row_at c k
unfolding row_at
others_stay c d r low high k n =
    by_order (row_from d (start_of k) ≡ row_from c (start_of k)) k r
    (λ (l : k < r).
    row_cong c d (start_of k) (start_of k) (low (start_of k) (omega arith))
    (λ j h. low (start_of k + (2 + j)) (omega arith)))
    (λ (l : r ≤ k).
    let m : r < k = omega arith in
    row_cong c d (start_of k) (start_of k) (high (start_of k) (omega arith))
    (λ j h. high (start_of k + (2 + j)) (omega arith)))

-- a row copied
pub copy_set : (c d : List ℕ) (from to : ℕ) → Run c d (start_of to) 28 (λ k. get_or c (start_of from + k) 0) → RowSet c d to (row_at c from)
unfolding row_at
copy_set c d from to r =
    record {
      size = r.size;
      rows = r.before 0 (omega arith);
      here =
          row_cong c d (start_of from) (start_of to)
          (sym (ap (λ (k : ℕ). get_or d k 0) (add-zero (start_of to))) ∙ r.within 0 (omega arith)
          ∙ ap (λ (k : ℕ). get_or c k 0) (add-zero (start_of from)))
          (λ k h. r.within (2 + k) (omega arith));
      others = others_stay c d to r.before r.after;
    }

-- ---- a row with no count

lanes_zero : (n : ℕ) (f : ℕ → ℕ) → ((s : ℕ) → s < n → f s ≡ 0) → table n f ≡ replicate n 0
unfolding table
lanes_zero n f h = tab_same n f (λ s. 0) h ∙ tab_const n 0

lane_blank : (d : List ℕ) (b s : ℕ) → get_or d (b + (2 + s / 10)) 0 ≡ 0 → lane_at d b s ≡ 0
unfolding lane_at
lane_blank d b s e = ap (λ (x : ℕ). lane_in x (s % 10)) e ∙ lane_zero (s % 10)

blank_from :
    (d : List ℕ) (b n : ℕ) →
    get_or d b 0 ≡ n →
    ((k : ℕ) → k < 26 → get_or d (b + (2 + k)) 0 ≡ 0) →
    row_from d b ≡ record { number = n; counts = replicate slot_count 0 }
unfolding row_from
blank_from d b n e h =
    let t = lanes_zero slot_count (lane_at d b) (λ s l. lane_blank d b s (h (s / 10) (omega arith))) in
    λ i. record { number = e i; counts = t i }

module _ (c : List ℕ) (r n p : ℕ) (size : length c ≡ replies_cells) (h : r < 2560) where
  abbrev b : ℕ
  b = start_of r

  pub blank_set :
      (d : List ℕ) → Run c d b 28 (λ k. 0) →
      RowSet c (set (set d b n) (b + 1) p) r (record { number = n; counts = replicate slot_count 0 })
  unfolding row_at
  blank_set d run =
      let e : List ℕ = set (set d b n) (b + 1) p in
      let l : length d ≡ replies_cells = run.size ∙ size in
      let far : (x : ℕ) → x ≢ b → x ≢ b + 1 → get_or e x 0 ≡ get_or d x 0 =
      λ x u v. get_or-set_other (set d b n) (b + 1) x p 0 v ∙ get_or-set_other d b x n 0 u in
      record {
        size = length-set (set d b n) (b + 1) p ∙ length-set d b n ∙ run.size;
        rows = far 0 (λ q. omega arith) (λ q. omega arith) ∙ run.before 0 (omega arith);
        here =
            blank_from e b n
            (get_or-set_other (set d b n) (b + 1) b p 0 (λ q. omega arith) ∙ get_or-set_same d b n 0 (omega arith))
            (λ k m.
            far (b + (2 + k)) (λ q. omega arith) (λ q. omega arith) ∙ run.within (2 + k) (omega arith));
        others =
            others_stay c e r
            (λ x m. far x (λ q. omega arith) (λ q. omega arith) ∙ run.before x m)
            (λ x m. far x (λ q. omega arith) (λ q. omega arith) ∙ run.after x m);
      }

-- ---- one count of a row

abbrev pub with_count : Row → ℕ → ℕ → Row
with_count r s v = record { number = r.number; counts = set r.counts s v }

module _ (c : List ℕ) (r s y v : ℕ) (size : length c ≡ replies_cells) (h : r < 2560) (l : s < slot_count) where
  abbrev at : ℕ
  at = start_of r + (2 + s / 10)

  module _ (t : LaneSet (get_or c at 0) y (s % 10) v) where
    lane_here : lane_at (set c at y) (start_of r) s ≡ v
    unfolding lane_at
    lane_here = ap (λ (x : ℕ). lane_in x (s % 10)) (get_or-set_same c at y 0 (omega arith)) ∙ t.here

    lane_other : (k : ℕ) → k ≢ s → lane_at (set c at y) (start_of r) k ≡ lane_at c (start_of r) k
    unfolding lane_at
    lane_other k n =
        by_same (lane_at (set c at y) (start_of r) k ≡ lane_at c (start_of r) k) (k / 10) (s / 10)
        (λ e.
        let q : get_or (set c at y) (start_of r + (2 + k / 10)) 0 ≡ y =
        ap (λ (x : ℕ). get_or (set c at y) (start_of r + (2 + x)) 0) e ∙ get_or-set_same c at y 0 (omega arith) in
        ap (λ (x : ℕ). lane_in x (k % 10)) q
        ∙ t.others (k % 10) (λ z. n (omega arith))
        ∙ ap (λ (x : ℕ). lane_in (get_or c (start_of r + (2 + x)) 0) (k % 10)) (sym e))
        (λ m.
        ap (λ (x : ℕ). lane_in x (k % 10))
        (get_or-set_other c at (start_of r + (2 + k / 10)) y 0 (λ z. m (omega arith))))

    here_is : row_from (set c at y) (start_of r) ≡ with_count (row_from c (start_of r)) s v
    unfolding row_from
    here_is =
        let e = get_or-set_other c at (start_of r) y 0 (λ z. omega arith) in
        let f = table_set slot_count (lane_at c (start_of r)) (lane_at (set c at y) (start_of r)) s v lane_here (λ k b n. lane_other k n) in
        λ i. record { number = e i; counts = f i }

    pub count_set : RowSet c (set c at y) r (with_count (row_at c r) s v)
    unfolding row_at
    count_set =
        record {
          size = length-set c at y;
          rows = get_or-set_other c at 0 y 0 (λ z. omega arith);
          here = here_is;
          others =
              others_stay c (set c at y) r
              (λ x m. get_or-set_other c at x y 0 (λ z. omega arith))
              (λ x m. get_or-set_other c at x y 0 (λ z. omega arith));
        }

-- one more
pub more_count :
    (c : List ℕ) (r s y : ℕ) →
    length c ≡ replies_cells →
    r < 2560 →
    s < slot_count →
    LaneSet (get_or c (start_of r + (2 + s / 10)) 0) y (s % 10) (lane_in (get_or c (start_of r + (2 + s / 10)) 0) (s % 10) + 1) →
    RowSet c (set c (start_of r + (2 + s / 10)) y) r (one_more (row_at c r) s)
more_count c r s y size h l t =
    count_set c r s y (get_or (row_at c r).counts s 0 + 1) size h l (rw (count_lane c r s l) at t)

-- ---- the rows in use

pub used_same : (c : List ℕ) (u k : ℕ) → row_at (set c 0 u) k ≡ row_at c k
unfolding row_at
used_same c u k =
    row_cong c (set c 0 u) (start_of k) (start_of k) (get_or-set_other c 0 (start_of k) u 0 (λ z. omega arith))
    (λ j h. get_or-set_other c 0 (start_of k + (2 + j)) u 0 (λ z. omega arith))

pub used_is : (c : List ℕ) (u : ℕ) → length c ≡ replies_cells → rows_in (set c 0 u) ≡ u
used_is c u e = get_or-set_same c 0 u 0 (omega arith)
