-- The amounts by kind, and that a record within its caps and with its amounts added is the record that 01's delivery gives.
-- Assumes nothing.
use Rattle.index.proofs.Kit.{ℕ, ◌+◌, ◌≤◌, ◌≡◌, true, false, arith, by_test}
use mathlib.Core.Bool.{cond}
use lib.Dec.{eqb}
use Rattle.records.specs.declared.TopicRecord.{TopicRecord}
use Rattle.score.specs.declared.TopicParams.{TopicParams}
use Rattle.score.specs.Ranges.{CountersWithin}
use Rattle.score.specs.Parts.{is_member}
use Rattle.score.specs.Counters.{count_most, with_counters, raised_of, raised3_of, first_of, near_first_of, invalid_of}
use Rattle.credits.specs.declared.Addition.{Addition}
use Rattle.credits.specs.Credits.{amount_of, amount3_of, first_amounts, near_first_amounts, invalid_amounts, amounts_of, added_of, credited_of}

-- ---- the amounts

module _ (t : TopicParams) (r : TopicRecord) where
  pub member_amount : (n : ℕ) → eqb r.member 1 ≡ true → n ≡ amount_of r.p3 t.cap3 → n ≡ amount3_of t r
  unfolding amount3_of
  member_amount n m e = rw m e

  pub other_amount : eqb r.member 1 ≡ false → 0 ≡ amount3_of t r
  unfolding amount3_of
  other_amount m = rw m

  -- the amounts of a kind, as they are computed
  module _ (kind : ℕ) where
    pub first_amounts_lem :
        (x y : ℕ) → eqb kind 1 ≡ true → x ≡ amount_of r.p2 t.cap2 → y ≡ amount3_of t r →
        record { p2 = x; p3 = y; p4 = 0 } ≡ amounts_of kind t r
    unfolding amounts_of
    first_amounts_lem x y a e f = rw a (λ i. record { p2 = e i; p3 = f i; p4 = 0 })

    pub near_first_amounts_lem :
        (y : ℕ) → eqb kind 1 ≡ false → eqb kind 2 ≡ true → y ≡ amount3_of t r → record { p2 = 0; p3 = y; p4 = 0 } ≡ amounts_of kind t r
    unfolding amounts_of
    near_first_amounts_lem y a b f = rw (a, b) (λ i. record { p2 = 0; p3 = f i; p4 = 0 })

    pub invalid_amounts_lem :
        (z : ℕ) → eqb kind 1 ≡ false → eqb kind 2 ≡ false → z ≡ amount_of r.p4 count_most →
        record { p2 = 0; p3 = 0; p4 = z } ≡ amounts_of kind t r
    unfolding amounts_of
    invalid_amounts_lem z a b g = rw (a, b) (λ i. record { p2 = 0; p3 = 0; p4 = g i })

-- ---- added, they raise the counters

amount_raises : (x most : ℕ) → x ≤ most → x + amount_of x most ≡ raised_of x most
amount_raises x most h = omega arith

amount_none : (x : ℕ) → x + 0 ≡ x
amount_none x = omega arith

added_is :
    (r : TopicRecord) (a : Addition) (x y z : ℕ) → r.p2 + a.p2 ≡ x → r.p3 + a.p3 ≡ y → r.p4 + a.p4 ≡ z →
    added_of r a ≡ with_counters r x y z r.p3b r.mesh
added_is r a x y z e f g = λ i. with_counters r (e i) (f i) (g i) r.p3b r.mesh

module _ (t : TopicParams) (r : TopicRecord) (k : CountersWithin t r) where
  amount3_raises : r.p3 + amount3_of t r ≡ raised3_of t r
  unfolding amount3_of raised3_of
  amount3_raises =
      by_test (r.p3 + amount3_of t r ≡ raised3_of t r) (is_member r)
      (λ m. rw m (amount_raises r.p3 t.cap3 k.p3))
      (λ m. rw m (amount_none r.p3))

  first_added : added_of r (first_amounts t r) ≡ first_of t r
  unfolding first_of
  first_added = added_is r (first_amounts t r) _ _ _ (amount_raises r.p2 t.cap2 k.p2) amount3_raises (amount_none r.p4)

  near_first_added : added_of r (near_first_amounts t r) ≡ near_first_of t r
  unfolding near_first_of
  near_first_added = added_is r (near_first_amounts t r) _ _ _ (amount_none r.p2) amount3_raises (amount_none r.p4)

  invalid_added : added_of r (invalid_amounts r) ≡ invalid_of r
  unfolding invalid_of
  invalid_added = added_is r (invalid_amounts r) _ _ _ (amount_none r.p2) (amount_none r.p3) (amount_raises r.p4 count_most k.p4)

  -- "min(counter + 1000, cap)", by kind
  pub credited_is : (kind : ℕ) → credited_of kind t r ≡ cond (eqb kind 1) (first_of t r) (cond (eqb kind 2) (near_first_of t r) (invalid_of r))
  unfolding credited_of amounts_of
  credited_is kind =
      by_test (credited_of kind t r ≡ cond (eqb kind 1) (first_of t r) (cond (eqb kind 2) (near_first_of t r) (invalid_of r))) (eqb kind 1)
      (λ a. rw a first_added)
      (λ a.
      by_test (credited_of kind t r ≡ cond (eqb kind 1) (first_of t r) (cond (eqb kind 2) (near_first_of t r) (invalid_of r))) (eqb kind 2)
      (λ b. rw (a, b) near_first_added)
      (λ b. rw (a, b) invalid_added))
