-- The test of the rows: lane by lane it is the test of every slot's count, and row by row that of all rows.
-- Assumes nothing.
use Prim.Native.Nat.{ℕ, zero, suc, ◌+◌, ◌*◌, ◌-◌, ◌/◌, ◌%◌, ◌≤◌, ◌<◌}
use mathlib.Core.Path.{◌≡◌, refl, sym, ap, ◌∙◌}
use mathlib.Core.Bool.{Bool, true, false, cond, ◌&&◌, ◌||◌}
use mathlib.Core.List.{List, [], ◌∷◌, map}
use native.Mathlib.Nat.{not-suc-le-zero}
use native.Mathlib.Omega.{arith}
use lib.Dec.{eqb, leb, ltb}
use lib.ListN.{length, get_or, length-map}
use borrow.Author.Tests.{lt-ltb, ltb-true, le-leb, lt-leb, leb-true, eq-eqb, ne_eqb, eqb-true, eqb-false}
use borrow.Author.Count.{below_more}
use Rattle.index.specs.Index.{every}
use Rattle.index.proofs.Index.{both, every_at, every_by, every_same}
use Rattle.index.proofs.Flags.{by_order}
use Rattle.records.specs.Records.{State, slot_count, peer_in, is_connected}
use Rattle.layout.specs.View.{table}
use Rattle.layout.proofs.RowLaws.{length_tab}
use Rattle.gossip.specs.Notes.{Row, rows_most}
use Rattle.gossip.specs.Valid.{all, rises, row_number, row_ok, replies_ok}
use Rattle.replies.specs.View.{lane_count, rows_in, start_of, lane_in, lane_at, row_from, row_at, replies_of}
use Rattle.replies.specs.Asked.{row_fits, rows_ok, lane_fits, cell_fits, lanes_fit, step_at}
use Rattle.replies.proofs.ListLaws.{number_at, all_at, all_by, rises_at, rises_by}
use Rattle.replies.proofs.LaneLaws.{lane_zero}
use Rattle.replies.proofs.RowLaws.{rows_length, row_load, number_load, count_lane}

-- ---- tests

-- two tests that hold together
pub same_test : (a b : Bool) → (a ≡ true → b ≡ true) → (b ≡ true → a ≡ true) → a ≡ b
same_test true b f g = sym (f refl)
same_test false true f g = g refl
same_test false false f g = refl

-- one that cannot hold
pub never : (a : Bool) → (a ≡ true → ⊥) → a ≡ false
never true f = absurd (f refl)
never false f = refl

no_truth : false ≡ true → ⊥
no_truth e = let z : ◌≡◌ {A = ℕ} 0 1 = cc in omega arith

or_right : (a b : Bool) → a ≡ false → a || b ≡ true → b ≡ true
or_right true b e h = absurd (no_truth (sym e))
or_right false b e h = h

pub or_left : (a b : Bool) → a ≡ true → a || b ≡ true
or_left true b e = refl
or_left false b e = absurd (no_truth e)

pub or_also : (a b : Bool) → b ≡ true → a || b ≡ true
or_also true b e = refl
or_also false b e = e

table_length : (n : ℕ) (f : ℕ → ℕ) → length (table n f) ≡ n
unfolding table
table_length n f = length_tab n f

-- ---- one lane

-- a count that is 0 is within any bound
pub lane_test : (past on : Bool) (v most : ℕ) → (past || eqb v 0) || (on && leb v most) ≡ past || leb v (cond on most 0)
lane_test true on v most = refl
lane_test false true v most = zero_too (eqb v 0) refl
  where
    zero_too : (z : Bool) → eqb v 0 ≡ z → z || leb v most ≡ leb v most
    zero_too true e = let h = eqb-true v 0 e in sym (le-leb v most (omega arith))
    zero_too false e = refl
lane_test false false v most = none_else (eqb v 0) refl
  where
    none_else : (z : Bool) → eqb v 0 ≡ z → z || false ≡ leb v 0
    none_else true e = let h = eqb-true v 0 e in sym (le-leb v 0 (omega arith))
    none_else false e =
        let h = eqb-false v 0 e in
        sym (never (leb v 0) (λ t. let l = leb-true v 0 t in h (omega arith)))

module _ (on : ℕ → Bool) (most : ℕ) where
  -- a cell of 0 holds no count
  pub cell_zero : (k x : ℕ) → x ≡ 0 → cell_fits on most k x ≡ true
  unfolding cell_fits
  cell_zero k x e =
      every_by (λ j. lane_fits on most (lane_count * k + j) (lane_in x j)) lane_count
      (λ j h.
      let z : lane_in x j ≡ 0 = ap (λ (n : ℕ). lane_in n j) e ∙ lane_zero j in
      or_also (leb slot_count (lane_count * k + j)) _ (le-leb (lane_in x j) _ (omega arith)))

  -- ---- one row

  module _ (c : List ℕ) (r : ℕ) where
    abbrev slot_fits : ℕ → Bool
    slot_fits s = leb (get_or (row_at c r).counts s 0) (cond (on s) most 0)

    lane_slot :
        (k j s : ℕ) → s < slot_count → s / 10 ≡ k → s % 10 ≡ j →
        lane_in (get_or c (start_of r + (2 + k)) 0) j ≡ get_or (row_at c r).counts s 0
    lane_slot k j s h a b =
        let d = sym a in
        let e = sym b in
        (λ i. lane_in (get_or c (start_of r + (2 + d i)) 0) (e i)) ∙ count_lane c r s h

    from_lanes : lanes_fit on most c r ≡ true → every slot_count slot_fits ≡ true
    unfolding lanes_fit cell_fits
    from_lanes t =
        every_by slot_fits slot_count
        (λ s h.
        let k : ℕ = s / 10 in
        let j : ℕ = s % 10 in
        let x : ℕ = get_or c (start_of r + (2 + k)) 0 in
        let a = every_at (λ k. cell_fits on most k (get_or c (start_of r + (2 + k)) 0)) 26 k t (omega arith) in
        let b = every_at (λ j. lane_fits on most (10 * k + j) (lane_in x j)) 10 j a (omega arith) in
        let e : 10 * k + j ≡ s = omega arith in
        let d : leb slot_count s || leb (lane_in x j) (cond (on s) most 0) ≡ true =
        ap (λ (n : ℕ). lane_fits on most n (lane_in x j)) (sym e) ∙ b in
        ap (λ (v : ℕ). leb v (cond (on s) most 0)) (sym (lane_slot k j s h refl refl))
        ∙ or_right (leb slot_count s) _ (lt-leb slot_count s h) d)

    to_lanes : every slot_count slot_fits ≡ true → lanes_fit on most c r ≡ true
    unfolding lanes_fit cell_fits
    to_lanes t =
        every_by (λ k. cell_fits on most k (get_or c (start_of r + (2 + k)) 0)) 26
        (λ k h.
        let x : ℕ = get_or c (start_of r + (2 + k)) 0 in
        every_by (λ j. lane_fits on most (10 * k + j) (lane_in x j)) 10
        (λ j l.
        by_order (lane_fits on most (10 * k + j) (lane_in x j) ≡ true) (10 * k + j) slot_count
        (λ (q : 10 * k + j < slot_count).
        or_also (leb slot_count (10 * k + j)) _
        (ap (λ (v : ℕ). leb v (cond (on (10 * k + j)) most 0)) (lane_slot k j (10 * k + j) q (omega arith) (omega arith))
        ∙ every_at slot_fits slot_count (10 * k + j) t q))
        (λ (q : slot_count ≤ 10 * k + j).
        or_left (leb slot_count (10 * k + j)) _ (le-leb slot_count (10 * k + j) q))))

    counts_length : length (row_at c r).counts ≡ slot_count
    unfolding row_at row_from
    counts_length = table_length slot_count (lane_at c (start_of r))

    pub row_fits_lem : lanes_fit on most c r ≡ row_fits on most (row_at c r)
    unfolding row_fits
    row_fits_lem =
        same_test (lanes_fit on most c r) (every slot_count slot_fits) from_lanes to_lanes
        ∙ ap (λ (b : Bool). b && every slot_count slot_fits) (sym (eq-eqb (length (row_at c r).counts) slot_count counts_length))

  -- ---- all rows

  pub record Tested (c : List ℕ) (r : ℕ) : Type 0 where
    pub steps : (k : ℕ) → k < r → step_at c k ≡ true
    pub fit : (k : ℕ) → k < r → lanes_fit on most c k ≡ true

  module _ (c : List ℕ) where
    pub tested_none : Tested c 0
    tested_none = record { steps = λ k h. absurd (not-suc-le-zero h); fit = λ k h. absurd (not-suc-le-zero h) }

    pub tested_more : (r : ℕ) → step_at c r ≡ true → lanes_fit on most c r ≡ true → Tested c r → Tested c (r + 1)
    tested_more r a b t =
        record {
          steps = below_more (λ (k : ℕ). step_at c k ≡ true) r t.steps a;
          fit = below_more (λ (k : ℕ). lanes_fit on most c k ≡ true) r t.fit b;
        }

    abbrev l : List Row
    l = replies_of c

    -- a step between two rows is one of their numbers
    module _ (r : ℕ) (h : suc r < rows_in c) where
      first_number : get_or c (start_of (suc r - 1)) 0 ≡ number_at l r
      first_number =
          let e : suc r - 1 ≡ r = omega arith in
          ap (λ (k : ℕ). get_or c (start_of k) 0) e ∙ sym (number_load c r (omega arith))

      second_number : get_or c (start_of (suc r)) 0 ≡ number_at l (suc r)
      second_number = sym (number_load c (suc r) h)

      step_up : number_at l r < number_at l (suc r) → step_at c (suc r) ≡ true
      step_up q =
          let a = first_number in
          let b = second_number in
          or_also (eqb (suc r) 0) _ (lt-ltb (get_or c (start_of (suc r - 1)) 0) (get_or c (start_of (suc r)) 0) (omega arith))

      step_down : step_at c (suc r) ≡ true → number_at l r < number_at l (suc r)
      step_down t =
          let a = first_number in
          let b = second_number in
          let q = ltb-true (get_or c (start_of (suc r - 1)) 0) (get_or c (start_of (suc r)) 0)
          (or_right (eqb (suc r) 0) _ (ne_eqb (suc r) 0 (λ z. omega arith)) t) in
          omega arith

    numbers_length : length (map row_number l) ≡ rows_in c
    numbers_length = length-map l row_number ∙ rows_length c

    -- the parts of the test
    parts : rows_ok on most l ≡ true → (length l ≤ rows_most) × (rises (map row_number l) ≡ true) × (all (row_fits on most) l ≡ true)
    unfolding rows_ok
    parts t =
        let p = both (leb (length l) rows_most && rises (map row_number l)) (all (row_fits on most) l) t in
        let q = both (leb (length l) rows_most) (rises (map row_number l)) p.0 in
        (leb-true (length l) rows_most q.0, q.1, p.1)

    pub too_many : rows_most < rows_in c → rows_ok on most l ≡ false
    too_many h = never (rows_ok on most l) (λ t. let p = (parts t).0 in let e = rows_length c in omega arith)

    pub not_rising : (r : ℕ) → r < rows_in c → step_at c r ≡ false → rows_ok on most l ≡ false
    not_rising r h f =
        never (rows_ok on most l)
        (λ t.
        let q : step_at c r ≡ true = step_holds r h (parts t).1 in
        no_truth (sym f ∙ q))
      where
        step_holds : (r : ℕ) → r < rows_in c → rises (map row_number l) ≡ true → step_at c r ≡ true
        step_holds zero h t = refl
        step_holds (suc r) h t =
            let e = numbers_length in
            step_up r h (rises_at (map row_number l) r (suc r) t (omega arith) (omega arith))

    pub not_fitting : (r : ℕ) → r < rows_in c → lanes_fit on most c r ≡ false → rows_ok on most l ≡ false
    not_fitting r h f =
        never (rows_ok on most l)
        (λ t.
        let e = rows_length c in
        let a = all_at (row_fits on most) l r (row_at c r) (parts t).2 (omega arith) in
        no_truth (sym f ∙ row_fits_lem c r ∙ ap (row_fits on most) (sym (row_load c r (row_at c r) h)) ∙ a))

    pub all_tested : (r : ℕ) → rows_in c ≤ rows_most → rows_in c ≤ r → Tested c r → rows_ok on most l ≡ true
    unfolding rows_ok
    all_tested r m h t =
        let e = rows_length c in
        let a : leb (length l) rows_most ≡ true = le-leb (length l) rows_most (omega arith) in
        let b : rises (map row_number l) ≡ true =
        rises_by (map row_number l)
        (λ i q.
        let n = numbers_length in
        let g : suc i < rows_in c = omega arith in
        step_down i g (t.steps (suc i) (omega arith))) in
        let d : all (row_fits on most) l ≡ true =
        all_by (row_fits on most) l (row_at c 0)
        (λ k q.
        let g : k < rows_in c = omega arith in
        ap (row_fits on most) (row_load c k (row_at c 0) g) ∙ sym (row_fits_lem c k) ∙ t.fit k (omega arith)) in
        rw (a, b, d)

-- the first row has none before it
pub step_first : (c : List ℕ) (r : ℕ) → r ≡ 0 → true ≡ step_at c r
step_first c r e = sym (or_left (eqb r 0) _ (eq-eqb r 0 e))

pub step_later : (c : List ℕ) (r : ℕ) → (r ≡ 0 → ⊥) → ltb (get_or c (start_of (r - 1)) 0) (get_or c (start_of r) 0) ≡ step_at c r
step_later c r n = ap (λ (b : Bool). b || ltb (get_or c (start_of (r - 1)) 0) (get_or c (start_of r) 0)) (sym (ne_eqb r 0 n))

-- ---- what the router's test asks

-- of what is connected, it is the test of test 12
pub fits_ok :
    (st : State) (on : ℕ → Bool) (most : ℕ) (r : Row) →
    ((s : ℕ) → s < slot_count → on s ≡ is_connected (peer_in st s)) →
    row_fits on most r ≡ row_ok st most r
unfolding row_fits row_ok
fits_ok st on most r h =
    ap (λ (b : Bool). eqb (length r.counts) slot_count && b)
    (every_same (λ s. leb (get_or r.counts s 0) (cond (on s) most 0))
    (λ s. leb (get_or r.counts s 0) (cond (is_connected (peer_in st s)) most 0)) slot_count
    (λ s l. ap (λ (b : Bool). leb (get_or r.counts s 0) (cond b most 0)) (h s l)))

all_same : (f g : Row → Bool) (l : List Row) → ((r : Row) → f r ≡ g r) → all f l ≡ all g l
unfolding all
all_same f g [] h = refl
all_same f g (r ∷ l) h = rw (h r, all_same f g l h)

pub rows_ok_test :
    (st : State) (on stored : ℕ → Bool) (most : ℕ) (l : List Row) →
    ((s : ℕ) → s < slot_count → on s ≡ is_connected (peer_in st s)) →
    rows_ok on most l && all stored (map row_number l) ≡ replies_ok st most stored l
unfolding rows_ok replies_ok
rows_ok_test st on stored most l h =
    rw (all_same (row_fits on most) (row_ok st most) l (λ r. fits_ok st on most r h))
    (swap (leb (length l) rows_most && rises (map row_number l)) (all (row_ok st most) l) (all stored (map row_number l)))
  where
    swap : (a b c : Bool) → (a && b) && c ≡ (a && c) && b
    swap true true true = refl
    swap true true false = refl
    swap true false true = refl
    swap true false false = refl
    swap false b c = refl
