-- The factors of 0 to 1000: their bits rise, and none is a NaN. Both are tests that are computed, and nothing is said of rounding. So there
-- is never a second n, and a search by halves finds the first.
-- Assumes nothing.
use Rattle.std.proofs.Common.{Option, Some, None}
use Rattle.index.proofs.Kit.{ℕ, ◌+◌, ◌<◌, ◌≤◌, ◌≡◌, refl, sym, ap, ◌∙◌, Bool, true, false, not, arith, first_hit, by_test, by_order}
use Rattle.index.specs.Index.{every, first}
use Prim.Native.Nat.{zero, suc}
use mathlib.Core.Bool.{◌&&◌, and-true, and-false}
use mathlib.Core.Logic.{⊎_elim}
use native.Mathlib.Nat.{le_of_suc-le-suc, eq-or-lt_of_le}
use borrow.Author.Tests.{eq-eqb, ne_eqb, eqb-true, le-leb, leb-true, ltb-true}
use lib.Dec.{T, leb, ltb, eqb}
use lib.IntN.{ℤ, pos, negsuc, nat_abs}
use lib.Ieee.{is_nan, to_bits, div, of_int, of_bits}
use lib.Signed.{le_z}
use Rattle.index.proofs.Index.{both, every_at, first_is, first_same}
use Rattle.limits.specs.declared.Limit.{Limit}
use Rattle.limits.specs.Limits.{lies}
use Rattle.supplier_entry.specs.Factor.{thousand, factor_of, factor_bits, is_factor, factor_from, thousandths_of}
use Rattle.supplier_entry.specs.Asked.{Among}

rises : ℕ → Bool
rises n = ltb (factor_bits n) (factor_bits (suc n))

all_rise : every 1000 rises ≡ true
unfolding every rises factor_bits factor_of thousand to_bits div of_int of_bits
all_rise = refl

clean : ℕ → Bool
clean n = not (is_nan (factor_of n))

all_clean : every 1001 clean ≡ true
unfolding every clean factor_of thousand is_nan div of_int of_bits
all_clean = refl

is_T : (b : Bool) → b ≡ true → T b
is_T b e = rw e tt

pub factor_no_nan : (n : ℕ) → n ≤ 1000 → T (not (is_nan (factor_of n)))
unfolding clean
factor_no_nan n h = is_T (not (is_nan (factor_of n))) (every_at clean 1001 n all_clean (omega arith))

one_up : (n : ℕ) → n < 1000 → factor_bits n < factor_bits (suc n)
unfolding rises
one_up n h = ltb-true (factor_bits n) (factor_bits (suc n)) (every_at rises 1000 n all_rise h)

pub factor_lt : (b a : ℕ) → a < b → b ≤ 1000 → factor_bits a < factor_bits b
factor_lt zero a h l = absurd (omega arith)
factor_lt (suc b) a h l =
    let up = one_up b (omega arith) in
    ⊎_elim
    (λ e. rw e up)
    (λ m. let r = factor_lt b a m (omega arith) in omega arith)
    (eq-or-lt_of_le (le_of_suc-le-suc h))

pub factor_le : (a b : ℕ) → a ≤ b → b ≤ 1000 → factor_bits a ≤ factor_bits b
factor_le a b h l = ⊎_elim (λ e. rw e (omega arith)) (λ m. let r = factor_lt b a m l in omega arith) (eq-or-lt_of_le h)

pub only_one : (m n : ℕ) → m ≤ 1000 → n ≤ 1000 → factor_bits m ≡ factor_bits n → m ≡ n
only_one m n a b e =
    by_order (m ≡ n) m n
    (λ l. let r = factor_lt n m l b in absurd (omega arith))
    (λ g. ⊎_elim (λ q. sym q) (λ l. let r = factor_lt m n l a in absurd (omega arith)) (eq-or-lt_of_le g))

-- a search that fails at every index
absent : (f : ℕ → Bool) (n : ℕ) → ((i : ℕ) → i < n → f i ≡ false) → first n f ≡ None
unfolding first
absent f zero h = refl
absent f (suc n) h = rw (absent f n (λ i l. h i (omega arith)), h n (omega arith))

-- ---- the search by halves: what is known of the factors on both sides
pub record Halved (low high u from to : ℕ) : Type 0 where
  pub start : low ≤ from
  pub end : to ≤ high + 1
  pub below : (k : ℕ) → low ≤ k → k < from → factor_bits k < u
  pub above : (k : ℕ) → to ≤ k → k ≤ high → u ≤ factor_bits k

module _ (low high u : ℕ) where
  pub halved_none : Halved low high u low (high + 1)
  halved_none =
      record { start = omega arith; end = omega arith; below = λ k a b. absurd (omega arith); above = λ k a b. absurd (omega arith) }

  module _ (from to m r : ℕ) (c : high ≤ 1000) (h : Halved low high u from to) (a : from ≤ m) (b : m < to) (e : r ≡ factor_bits m) where
    pub halved_up : r < u → Halved low high u (m + 1) to
    halved_up t =
        record {
          start = omega (arith, h.start);
          end = h.end;
          below = λ k p q. omega (arith, factor_le k m (omega arith) (omega (arith, h.end)));
          above = h.above;
        }

    pub halved_down : u ≤ r → Halved low high u from m
    halved_down t =
        record {
          start = h.start;
          end = omega (arith, h.end);
          below = h.below;
          above = λ k p q. omega (arith, factor_le m k p (omega arith));
        }

  not_from : (k : ℕ) → (low ≤ k → factor_bits k ≡ u → ⊥) → factor_from low u k ≡ false
  unfolding factor_from
  not_from k n =
      by_test (leb low k && eqb (factor_bits k) u ≡ false) (leb low k)
      (λ t. rw (t, ne_eqb (factor_bits k) u (n (leb-true low k t))))
      (λ t. rw t)

  module _ (from to : ℕ) (c : high ≤ 1000) (h : Halved low high u from to) (e : to ≤ from) where
    passed : (k : ℕ) → k < from → factor_from low u k ≡ false
    passed k l = not_from k (λ a q. let b = h.below k a l in omega arith)

    pub search_past : high < from → None ≡ first (suc high) (factor_from low u)
    search_past l = sym (absent (factor_from low u) (suc high) (λ k q. passed k (omega arith)))

    module _ (l : from ≤ high) (b : Bool) (d : b ≡ eqb (factor_bits from) u) where
      pub search_hit : b ≡ true → Some from ≡ first (suc high) (factor_from low u)
      unfolding factor_from
      search_hit t =
          sym (first_hit (factor_from low u) (suc high) from (omega arith) (absent (factor_from low u) from passed)
          (rw (le-leb low from h.start, ← d, t)))

      pub search_miss : b ≡ false → None ≡ first (suc high) (factor_from low u)
      search_miss t =
          sym (absent (factor_from low u) (suc high) (λ k q.
          by_order (factor_from low u k ≡ false) k from
          (λ i. passed k i)
          (λ g. not_from k (λ a w. other k g (omega arith) w))))
        where
          differs : factor_bits from ≡ u → ⊥
          differs w =
              let z : true ≡ false = sym (eq-eqb (factor_bits from) u w) ∙ sym d ∙ t in
              let y : ◌≡◌ {A = ℕ} 0 1 = cc in
              absurd (omega arith)

          other : (k : ℕ) → from ≤ k → k ≤ high → factor_bits k ≡ u → ⊥
          other k g q w =
              ⊎_elim
              (λ i. differs (ap factor_bits i ∙ w))
              (λ i. let x = factor_lt k from i (omega arith) in let y = h.above from (omega arith) l in omega arith)
              (eq-or-lt_of_le g)

-- ---- limits that are natural numbers: the definition's test and the search's are one
lie_from : (lo hi : ℤ) (n : ℕ) → pos (nat_abs lo) ≡ lo → pos (nat_abs hi) ≡ hi → n ≤ nat_abs hi → leb (nat_abs lo) n
    ≡ (le_z lo (pos n) && le_z (pos n) hi)
lie_from (pos a) (pos b) n p q h = rw (le-leb n b h) (sym (and-true (leb a n)))
lie_from (pos a) (negsuc b) n p q h = let z : ◌≡◌ {A = ℕ} 0 1 = cc in absurd (omega arith)
lie_from (negsuc a) hi n p q h = let z : ◌≡◌ {A = ℕ} 0 1 = cc in absurd (omega arith)

pub thousandths_are :
    (l : Limit) (u a b : ℕ) (r : Option ℕ) → Among l → a ≡ nat_abs l.low → b ≡ nat_abs l.high → r ≡ first (suc b) (factor_from a u) →
    r ≡ thousandths_of l u
unfolding thousandths_of is_factor factor_from
thousandths_are l u a b r g p q e =
    e
    ∙ rw (p, q)
    (first_same (factor_from (nat_abs l.low) u) (is_factor l u) (suc (nat_abs l.high))
    (λ n h. ap (λ (t : Bool). t && eqb (factor_bits n) u) (lie_from l.low l.high n g.low g.high (omega arith))))

-- what is accepted is the factor of the answer, bit for bit, and lies within the limits
pub thousandths_found : (l : Limit) (u n : ℕ) → thousandths_of l u ≡ Some n → (n ≤ nat_abs l.high) × (lies (pos n) l ≡ true)
    × (factor_bits n ≡ u)
unfolding thousandths_of is_factor
thousandths_found l u n e =
    let f = first_is (is_factor l u) (suc (nat_abs l.high)) n e in
    let t = both (lies (pos n) l) (eqb (factor_bits n) u) f.1 in
    (omega (arith, f.0), t.0, eqb-true (factor_bits n) u t.1)

-- n's factor is found, as n
pub thousandths_back : (l : Limit) (n : ℕ) → Among l → n ≤ nat_abs l.high → lies (pos n) l ≡ true → thousandths_of l (factor_bits n) ≡ Some n
unfolding thousandths_of is_factor
thousandths_back l n g h t =
    first_hit (is_factor l (factor_bits n)) (suc (nat_abs l.high)) n (omega arith)
    (absent (is_factor l (factor_bits n)) n (λ k q. no_less k q))
    (rw (t, eq-eqb (factor_bits n) (factor_bits n) refl))
  where
    no_less : (k : ℕ) → k < n → (lies (pos k) l && eqb (factor_bits k) (factor_bits n)) ≡ false
    no_less k q =
        rw (ne_eqb (factor_bits k) (factor_bits n) (λ e. let r = factor_lt n k q (omega (arith, g.most)) in omega arith))
        (and-false (lies (pos k) l))
