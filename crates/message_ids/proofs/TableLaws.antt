-- The table's test: its ends, and what an accepted table has: sizes in bounds, rows that are there, and two orders that rise from neighbour
-- to neighbour and so between any two.
-- Assumes nothing.
use Rattle.index.proofs.Kit.{ℕ, ◌-◌, ◌*◌, ◌<◌, ◌≤◌, ◌≡◌, refl, sym, ◌∙◌, Bool, true, false, arith, every, every_fails, every_done}
use Prim.Native.Nat.{zero, suc, ◌/◌, ◌%◌}
use mathlib.Core.Bool.{◌&&◌, ◌||◌}
use mathlib.Core.List.{List}
use borrow.Author.Tests.{eq-eqb, ne_eqb, eqb-true, lt-ltb, le-ltb, ltb-true, le-leb, lt-leb, leb-true}
use lib.Dec.{eqb, ltb, leb}
use lib.ListN.{length, get_or}
use Rattle.index.proofs.Kit.{by_order}
use Rattle.index.proofs.Index.{both, every_at}
use Rattle.message_ids.specs.Ids.{id_bytes, row_bytes, id_size, id_start, row_code, code_of, id_ok, ids_ok, number_by, place_ok, numbers_ok}
use Rattle.message_ids.specs.Ids.{table_ok}
use Rattle.message_ids.specs.Ids.{Compared}
use Rattle.std.specs.declared.cmp.Ordering.{Ordering}
use Rattle.std.specs.declared.cmp.Ordering.TheVariants.{Less, Equal, Greater}
use Rattle.std.specs.Ordering.{is_lt}
use Rattle.message_ids.proofs.CodeLaws.{digits_same}

-- ---- the ends of `id_ok`
module _ (ids : List ℕ) (k size : ℕ) (z : size ≡ id_size ids k) where
  pub id_empty : size ≡ 0 → false ≡ id_ok ids k
  unfolding id_ok
  id_empty e = rw (← z, le-ltb 0 size (omega arith))

  module _ (n : size ≡ 0 → ⊥) where
    some : ltb 0 size ≡ true
    some = lt-ltb 0 size (omega arith)

    pub id_long : id_bytes < size → false ≡ id_ok ids k
    unfolding id_ok
    id_long h = rw (← z, some, lt-leb size id_bytes h)

    module _ (h : size ≤ id_bytes) where
      pub id_first : k ≡ 0 → true ≡ id_ok ids k
      unfolding id_ok
      id_first e = rw (← z, some, le-leb size id_bytes h, eq-eqb k 0 e)

      module _ (m : k ≡ 0 → ⊥) (r : Ordering)
          (c : Compared ids (id_start (k - 1)) (id_size ids (k - 1)) ids (id_start k) size r) where
        decides : ltb (row_code ids (k - 1)) (code_of ids (id_start k) size) ≡ id_ok ids k
        unfolding id_ok
        decides = rw (← z, some, le-leb size id_bytes h, ne_eqb k 0 m)

        id_rises : r ≡ Less → true ≡ id_ok ids k
        id_rises e = sym (lt-ltb (row_code ids (k - 1)) (code_of ids (id_start k) size) (c.before e)) ∙ decides

        id_same : r ≡ Equal → false ≡ id_ok ids k
        id_same e =
            let s = c.same e in
            let y : row_code ids (k - 1) ≡ code_of ids (id_start k) size =
            rw s.0 (digits_same ids ids (id_start (k - 1)) (id_start k) size size s.1) in
            sym (le-ltb (row_code ids (k - 1)) (code_of ids (id_start k) size) (omega arith)) ∙ decides

        id_falls : r ≡ Greater → false ≡ id_ok ids k
        id_falls e =
            let l = c.after e in
            sym (le-ltb (row_code ids (k - 1)) (code_of ids (id_start k) size) (omega arith)) ∙ decides

        pub id_compared : (q : Ordering) → r ≡ q → is_lt q ≡ id_ok ids k
        id_compared Less e = id_rises e
        id_compared Equal e = id_same e
        id_compared Greater e = id_falls e

either : {P : Type 0} (a b : Bool) → (a ≡ true → P) → (b ≡ true → P) → (a || b) ≡ true → P
either true b f g e = f refl
either false b f g e = g e

pub record GoodId (ids : List ℕ) (k : ℕ) : Type 0 where
  pub some : 0 < id_size ids k
  pub short : id_size ids k ≤ id_bytes
  pub rises : 0 < k → row_code ids (k - 1) < row_code ids k

pub good_id : (ids : List ℕ) (k : ℕ) → id_ok ids k ≡ true → GoodId ids k
unfolding id_ok
good_id ids k e =
    let a = both (ltb 0 (id_size ids k)) (leb (id_size ids k) id_bytes && (eqb k 0 || ltb (row_code ids (k - 1)) (row_code ids k))) e in
    let b = both (leb (id_size ids k) id_bytes) (eqb k 0 || ltb (row_code ids (k - 1)) (row_code ids k)) a.1 in
    record {
      some = ltb-true 0 (id_size ids k) a.0;
      short = leb-true (id_size ids k) id_bytes b.0;
      rises =
          λ h.
          either (eqb k 0) (ltb (row_code ids (k - 1)) (row_code ids k))
          (λ t. absurd (omega (arith, eqb-true k 0 t))) (λ t. ltb-true (row_code ids (k - 1)) (row_code ids k) t) b.1;
    }

-- the row before, which passed
pub last_short : (ids : List ℕ) (k : ℕ) → every k (id_ok ids) ≡ true → (k ≡ 0 → ⊥) → id_size ids (k - 1) ≤ id_bytes
last_short ids k e n = (good_id ids (k - 1) (every_at (id_ok ids) k (k - 1) e (omega arith))).short

-- ---- the ends of `ids_ok`
module _ (ids : List ℕ) (rows : ℕ) where
  pub ids_ragged : (length ids % row_bytes ≡ 0 → ⊥) → false ≡ ids_ok ids rows
  unfolding ids_ok
  ids_ragged n = rw (ne_eqb (length ids) (row_bytes * rows) (λ e. n (omega arith)))

  pub ids_other : (length ids / row_bytes ≡ rows → ⊥) → false ≡ ids_ok ids rows
  unfolding ids_ok
  ids_other n = rw (ne_eqb (length ids) (row_bytes * rows) (λ e. n (omega arith)))

  pub ids_length : length ids % row_bytes ≡ 0 → length ids / row_bytes ≡ rows → length ids ≡ row_bytes * rows
  ids_length e f = omega arith

  module _ (e : length ids % row_bytes ≡ 0) (f : length ids / row_bytes ≡ rows) where
    pub ids_bad : (k : ℕ) → k < rows → id_ok ids k ≡ false → false ≡ ids_ok ids rows
    unfolding ids_ok
    ids_bad k h t = rw (eq-eqb (length ids) (row_bytes * rows) (ids_length e f), every_fails (id_ok ids) rows k h t)

    pub ids_good : (k : ℕ) → k ≤ rows → rows ≤ k → every k (id_ok ids) ≡ true → true ≡ ids_ok ids rows
    unfolding ids_ok
    ids_good k l h t = rw (eq-eqb (length ids) (row_bytes * rows) (ids_length e f), every_done (id_ok ids) rows k l h t)

-- ---- ids that are accepted
pub record GoodIds (ids : List ℕ) (rows : ℕ) : Type 0 where
  pub long : length ids ≡ row_bytes * rows
  pub each : (k : ℕ) → k < rows → GoodId ids k

pub good_ids : (ids : List ℕ) (rows : ℕ) → ids_ok ids rows ≡ true → GoodIds ids rows
unfolding ids_ok
good_ids ids rows e =
    let h = both (eqb (length ids) (row_bytes * rows)) (every rows (id_ok ids)) e in
    record {
      long = eqb-true (length ids) (row_bytes * rows) h.0;
      each = λ k l. good_id ids k (every_at (id_ok ids) rows k h.1 l);
    }

-- what rises from neighbour to neighbour rises between any two
rising : (n : ℕ) (f : ℕ → ℕ) → ((k : ℕ) → k < n → 0 < k → f (k - 1) < f k) → (j k : ℕ) → j < k → k < n → f j < f k
rising n f h j zero l m = absurd (omega arith)
rising n f h j (suc k) l m =
    let e : suc k - 1 ≡ k = omega arith in
    let u : f k < f (suc k) = rw e at (h (suc k) m (omega arith)) in
    by_order (f j < f (suc k)) j k (λ a. let z = rising n f h j k a (omega arith) in omega arith)
    (λ a. let z : j ≡ k = omega arith in rw z u)

pub ids_rise : (ids : List ℕ) (rows : ℕ) → GoodIds ids rows → (j k : ℕ) → j < k → k < rows → row_code ids j < row_code ids k
ids_rise ids rows g = rising rows (row_code ids) (λ k h p. (g.each k h).rises p)

-- ---- the ends of `place_ok`
module _ (numbers order : List ℕ) (k : ℕ) where
  pub place_far : length numbers ≤ get_or order k 0 → false ≡ place_ok numbers order k
  unfolding place_ok
  place_far h = rw (le-ltb (get_or order k 0) (length numbers) h)

  module _ (h : get_or order k 0 < length numbers) where
    pub place_first : k ≡ 0 → true ≡ place_ok numbers order k
    unfolding place_ok
    place_first e = rw (lt-ltb (get_or order k 0) (length numbers) h, eq-eqb k 0 e)

    pub place_after :
        (k ≡ 0 → ⊥) → ltb (number_by numbers order (k - 1)) (number_by numbers order k) ≡ place_ok numbers order k
    unfolding place_ok
    place_after n = rw (lt-ltb (get_or order k 0) (length numbers) h, ne_eqb k 0 n)

pub record GoodPlace (numbers order : List ℕ) (k : ℕ) : Type 0 where
  pub low : get_or order k 0 < length numbers
  pub rises : 0 < k → number_by numbers order (k - 1) < number_by numbers order k

pub good_place : (numbers order : List ℕ) (k : ℕ) → place_ok numbers order k ≡ true → GoodPlace numbers order k
unfolding place_ok
good_place numbers order k e =
    let x = number_by numbers order (k - 1) in
    let y = number_by numbers order k in
    let a = both (ltb (get_or order k 0) (length numbers)) (eqb k 0 || ltb x y) e in
    record {
      low = ltb-true (get_or order k 0) (length numbers) a.0;
      rises = λ h. either (eqb k 0) (ltb x y) (λ t. absurd (omega (arith, eqb-true k 0 t))) (λ t. ltb-true x y t) a.1;
    }

pub last_low : (numbers order : List ℕ) (k : ℕ) → every k (place_ok numbers order) ≡ true → (k ≡ 0 → ⊥) →
    get_or order (k - 1) 0 < length numbers
last_low numbers order k e n = (good_place numbers order (k - 1) (every_at (place_ok numbers order) k (k - 1) e (omega arith))).low

-- ---- the ends of `numbers_ok`
module _ (numbers order : List ℕ) where
  pub numbers_other : (length order ≡ length numbers → ⊥) → false ≡ numbers_ok numbers order
  unfolding numbers_ok
  numbers_other n = rw (ne_eqb (length order) (length numbers) n)

  module _ (e : length order ≡ length numbers) where
    pub numbers_bad : (k : ℕ) → k < length numbers → place_ok numbers order k ≡ false → false ≡ numbers_ok numbers order
    unfolding numbers_ok
    numbers_bad k h t = rw (eq-eqb (length order) (length numbers) e, every_fails (place_ok numbers order) (length numbers) k h t)

    pub numbers_good :
        (k : ℕ) → k ≤ length numbers → length numbers ≤ k → every k (place_ok numbers order) ≡ true → true ≡ numbers_ok numbers order
    unfolding numbers_ok
    numbers_good k l h t = rw (eq-eqb (length order) (length numbers) e, every_done (place_ok numbers order) (length numbers) k l h t)

-- ---- numbers that are accepted
pub record GoodNumbers (numbers order : List ℕ) : Type 0 where
  pub long : length order ≡ length numbers
  pub each : (k : ℕ) → k < length numbers → GoodPlace numbers order k

pub good_numbers : (numbers order : List ℕ) → numbers_ok numbers order ≡ true → GoodNumbers numbers order
unfolding numbers_ok
good_numbers numbers order e =
    let h = both (eqb (length order) (length numbers)) (every (length numbers) (place_ok numbers order)) e in
    record {
      long = eqb-true (length order) (length numbers) h.0;
      each = λ k l. good_place numbers order k (every_at (place_ok numbers order) (length numbers) k h.1 l);
    }

-- the row at a place, and the length of the list that names it
pub row_low : (numbers order : List ℕ) → numbers_ok numbers order ≡ true → (k : ℕ) → k < length numbers → get_or order k 0 < length numbers
row_low numbers order e k h = ((good_numbers numbers order e).each k h).low

pub order_long : (numbers order : List ℕ) → numbers_ok numbers order ≡ true → length order ≡ length numbers
order_long numbers order e = (good_numbers numbers order e).long

pub numbers_rise :
    (numbers order : List ℕ) → GoodNumbers numbers order → (j k : ℕ) → j < k → k < length numbers →
    number_by numbers order j < number_by numbers order k
numbers_rise numbers order g = rising (length numbers) (number_by numbers order) (λ k h p. (g.each k h).rises p)

-- ---- the ends of `table_ok`
module _ (ids numbers order : List ℕ) where
  pub table_no : ids_ok ids (length numbers) ≡ false → false ≡ table_ok ids numbers order
  unfolding table_ok
  table_no e = rw e

  pub table_as : ids_ok ids (length numbers) ≡ true → (r : Bool) → r ≡ numbers_ok numbers order → r ≡ table_ok ids numbers order
  unfolding table_ok
  table_as e r q = rw e q

  pub table_parts : table_ok ids numbers order ≡ true → (ids_ok ids (length numbers) ≡ true) × (numbers_ok numbers order ≡ true)
  unfolding table_ok
  table_parts e = both (ids_ok ids (length numbers)) (numbers_ok numbers order) e
