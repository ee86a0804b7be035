-- A search by halves finds what a search from the front finds: rows below `low` come before what is looked for, rows from `high` on after
-- it, and no id or number stands in two rows.
-- Assumes nothing.
use Rattle.std.proofs.Common.{Some, None}
use Rattle.index.proofs.Kit.{ℕ, ◌+◌, ◌-◌, ◌<◌, ◌≤◌, ◌≡◌, refl, sym, ap, ◌∙◌, Bool, true, false, arith, first_hit, by_order, by_test}
use Rattle.index.specs.Index.{every, first}
use Prim.Native.Nat.{zero, suc, ◌/◌}
use mathlib.Core.List.{List}
use borrow.Author.Tests.{eq-eqb, ne_eqb, eqb-true}
use lib.Dec.{eqb}
use lib.ListN.{length, get_or}
use Rattle.index.proofs.Index.{both, first_is}
use Rattle.message_ids.specs.Ids.{id_size, id_start, same_at, is_id, row_of, number_row, code_of, row_code, number_by, numbers_ok}
use Rattle.message_ids.specs.Ids.{Compared}
use Rattle.message_ids.specs.Once.{NoIdTwice, NoNumberTwice}
use Rattle.std.specs.declared.cmp.Ordering.{Ordering}
use Rattle.std.specs.declared.cmp.Ordering.TheVariants.{Less, Equal, Greater}
use Rattle.message_ids.proofs.CodeLaws.{digits_same}
use Rattle.message_ids.proofs.RoomLaws.{Named, all_named}
use Rattle.message_ids.proofs.TableLaws.{GoodIds, good_ids, ids_rise, GoodNumbers, good_numbers, row_low, numbers_rise}

pub none_below : (f : ℕ → Bool) (k : ℕ) → ((j : ℕ) → j < k → f j ≡ false) → first k f ≡ None
unfolding first
none_below f zero h = refl
none_below f (suc k) h = rw (none_below f k (λ j l. h j (omega arith)), h k (omega arith))

-- ---- ids
module _ (ids s : List ℕ) (start size : ℕ) where
  pub id_code : (k : ℕ) → is_id ids k s start size ≡ true → row_code ids k ≡ code_of s start size
  unfolding is_id
  id_code k e =
      let h = both (eqb (id_size ids k) size) (every size (same_at ids (id_start k) s start)) e in
      let z = eqb-true (id_size ids k) size h.0 in
      rw z (digits_same ids s (id_start k) start size size h.1)

  other_code : (k : ℕ) → (row_code ids k ≡ code_of s start size → ⊥) → is_id ids k s start size ≡ false
  other_code k n =
      by_test (is_id ids k s start size ≡ false) (is_id ids k s start size) (λ t. absurd (n (id_code k t))) (λ t. t)

  -- the rows that are ruled out
  pub record Halved (rows low high : ℕ) : Type 0 where
    pub order : low ≤ high
    pub high_low : high ≤ rows
    pub below : (k : ℕ) → k < low → row_code ids k < code_of s start size
    pub above : (k : ℕ) → high ≤ k → k < rows → code_of s start size < row_code ids k

  pub halved_none : (rows : ℕ) → Halved rows 0 rows
  halved_none rows =
      record {
        order = omega arith;
        high_low = omega arith;
        below = λ k h. absurd (omega arith);
        above = λ k h l. absurd (omega arith);
      }

  module _ (rows : ℕ) (g : GoodIds ids rows) where
    module _ (low high mid : ℕ) (w : Halved rows low high) (a : low ≤ mid) (b : mid < high) (r : Ordering)
        (c : Compared ids (id_start mid) (id_size ids mid) s start size r) where
      pub halved_up : r ≡ Less → Halved rows (mid + 1) high
      halved_up e =
          let o = w.high_low in
          record {
            order = omega arith;
            high_low = w.high_low;
            below =
                λ k h.
                by_order (row_code ids k < code_of s start size) k mid
                (λ l. let x = ids_rise ids rows g k mid l (omega arith) in let y = c.before e in omega arith)
                (λ l. let z : k ≡ mid = omega arith in rw z (c.before e));
            above = w.above;
          }

      pub halved_down : r ≡ Greater → Halved rows low mid
      halved_down e =
          let o = w.high_low in
          record {
            order = a;
            high_low = omega arith;
            below = w.below;
            above =
                λ k h l.
                by_order (code_of s start size < row_code ids k) mid k
                (λ m. let x = ids_rise ids rows g mid k m l in let y = c.after e in omega arith)
                (λ m. let z : k ≡ mid = omega arith in rw z (c.after e));
          }

      pub halved_found : r ≡ Equal → Some mid ≡ row_of ids rows s start size
      unfolding row_of is_id
      halved_found e =
          let o = w.high_low in
          let q = c.same e in
          let t : is_id ids mid s start size ≡ true = rw (eq-eqb (id_size ids mid) size q.0, q.1) in
          let x = id_code mid t in
          let free : (j : ℕ) → j < mid → is_id ids j s start size ≡ false =
          λ j l. other_code j (λ e. let y = ids_rise ids rows g j mid l (omega arith) in omega arith) in
          sym (first_hit (λ k. is_id ids k s start size) rows mid (omega arith)
          (none_below (λ k. is_id ids k s start size) mid free) t)

    pub halved_all : (low high : ℕ) → Halved rows low high → high ≤ low → None ≡ row_of ids rows s start size
    unfolding row_of
    halved_all low high w h =
        sym (none_below (λ k. is_id ids k s start size) rows
        (λ j l. other_code j
        (λ e. by_order ⊥ j low (λ m. let x = w.below j m in omega arith)
        (λ m. let x = w.above j (let o = w.order in omega arith) l in omega arith))))

pub no_id_twice : NoIdTwice
no_id_twice ids rows j k e h l t =
    let g = good_ids ids rows e in
    let x : row_code ids j ≡ row_code ids k = id_code ids ids (id_start k) (id_size ids k) j t in
    by_order (j ≡ k) j k (λ m. let y = ids_rise ids rows g j k m l in absurd (omega arith))
    (λ m. by_order (j ≡ k) k j (λ p. let y = ids_rise ids rows g k j p h in absurd (omega arith)) (λ p. omega arith))

-- ---- numbers
-- the places that are ruled out
pub record Parted (numbers order : List ℕ) (v low high : ℕ) : Type 0 where
  pub between : low ≤ high
  pub high_low : high ≤ length numbers
  pub below : (k : ℕ) → k < low → number_by numbers order k < v
  pub above : (k : ℕ) → high ≤ k → k < length numbers → v < number_by numbers order k

pub parted_none : (numbers order : List ℕ) (v : ℕ) → Parted numbers order v 0 (length numbers)
parted_none numbers order v =
    record {
      between = omega arith;
      high_low = omega arith;
      below = λ k h. absurd (omega arith);
      above = λ k h l. absurd (omega arith);
    }

module _ (numbers order : List ℕ) (g : GoodNumbers numbers order) where
  -- every row is named
  named : (row : ℕ) → row < length numbers → Named (length numbers) (λ k. get_or order k 0) row
  named =
      all_named (length numbers) (λ k. get_or order k 0) (λ k h. (g.each k h).low)
      (λ i j h l e. let x = numbers_rise numbers order g i j h l in
      let y : number_by numbers order i ≡ number_by numbers order j = ap (λ (r : ℕ). get_or numbers r 0) e in omega arith)

  -- rows with one number are one row
  one_row : (j k : ℕ) → j < length numbers → k < length numbers → get_or numbers j 0 ≡ get_or numbers k 0 → j ≡ k
  one_row j k h l e =
      let a = named j h in
      let b = named k l in
      let x : number_by numbers order a.at ≡ number_by numbers order b.at =
      ap (λ (r : ℕ). get_or numbers r 0) a.is ∙ e ∙ sym (ap (λ (r : ℕ). get_or numbers r 0) b.is) in
      let z : a.at ≡ b.at = by_order (a.at ≡ b.at) a.at b.at
      (λ m. let y = numbers_rise numbers order g a.at b.at m b.low in absurd (omega arith))
      (λ m. by_order (a.at ≡ b.at) b.at a.at
      (λ p. let y = numbers_rise numbers order g b.at a.at p a.low in absurd (omega arith)) (λ p. omega arith)) in
      sym a.is ∙ ap (λ (i : ℕ). get_or order i 0) z ∙ b.is

  module _ (v : ℕ) where
    module _ (low high mid : ℕ) (w : Parted numbers order v low high) (a : low ≤ mid) (b : mid < high) where
      pub parted_up : number_by numbers order mid < v → Parted numbers order v (mid + 1) high
      parted_up e =
          let o = w.high_low in
          record {
            between = omega arith;
            high_low = w.high_low;
            below =
                λ k h.
                by_order (number_by numbers order k < v) k mid
                (λ l. let x = numbers_rise numbers order g k mid l (omega arith) in omega arith)
                (λ l. let z : k ≡ mid = omega arith in rw z e);
            above = w.above;
          }

      pub parted_down : v ≤ number_by numbers order mid → (number_by numbers order mid ≡ v → ⊥) → Parted numbers order v low mid
      parted_down e n =
          let o = w.high_low in
          let f : v < number_by numbers order mid = by_order (v < number_by numbers order mid) v (number_by numbers order mid)
          (λ l. l) (λ l. absurd (n (omega arith))) in
          record {
            between = a;
            high_low = omega arith;
            below = w.below;
            above =
                λ k h l.
                by_order (v < number_by numbers order k) mid k
                (λ m. let x = numbers_rise numbers order g mid k m l in omega arith)
                (λ m. let z : k ≡ mid = omega arith in rw z f);
          }

      pub parted_found : number_by numbers order mid ≡ v → Some (get_or order mid 0) ≡ number_row numbers v
      unfolding number_row
      parted_found e =
          let o = w.high_low in
          let row = get_or order mid 0 in
          let l = (g.each mid (omega arith)).low in
          let free : (j : ℕ) → j < row → eqb (get_or numbers j 0) v ≡ false =
          λ j m. ne_eqb (get_or numbers j 0) v (λ q. let z = one_row j row (omega arith) l (q ∙ sym e) in omega arith) in
          sym (first_hit (λ k. eqb (get_or numbers k 0) v) (length numbers) row l
          (none_below (λ k. eqb (get_or numbers k 0) v) row free) (eq-eqb (get_or numbers row 0) v e))

    pub parted_all : (low high : ℕ) → Parted numbers order v low high → high ≤ low → None ≡ number_row numbers v
    unfolding number_row
    parted_all low high w h =
        sym (none_below (λ k. eqb (get_or numbers k 0) v) (length numbers)
        (λ j l. ne_eqb (get_or numbers j 0) v
        (λ e.
        let n = named j l in
        let x : number_by numbers order n.at ≡ v = ap (λ (r : ℕ). get_or numbers r 0) n.is ∙ e in
        by_order ⊥ n.at low (λ m. let y = w.below n.at m in omega arith)
        (λ m. let y = w.above n.at (let o = w.between in omega arith) n.low in omega arith))))

pub no_number_twice : NoNumberTwice
no_number_twice numbers order j k e = one_row numbers order (good_numbers numbers order e) j k

-- the row at the middle
pub mid_low :
    (numbers order : List ℕ) (v low high : ℕ) → numbers_ok numbers order ≡ true → Parted numbers order v low high → low < high →
    get_or order (low + (high - low) / 2) 0 < length numbers
mid_low numbers order v low high e w h = let o = w.high_low in row_low numbers order e (low + (high - low) / 2) (omega arith)

-- a number's row is one of the table, and has it
pub row_below : (numbers : List ℕ) (v k : ℕ) → number_row numbers v ≡ Some k → k < length numbers
unfolding number_row
row_below numbers v k e = (first_is (λ i. eqb (get_or numbers i 0) v) (length numbers) k e).0

pub row_number : (numbers : List ℕ) (v k : ℕ) → number_row numbers v ≡ Some k → get_or numbers k 0 ≡ v
unfolding number_row
row_number numbers v k e =
    eqb-true (get_or numbers k 0) v (first_is (λ i. eqb (get_or numbers i 0) v) (length numbers) k e).1
