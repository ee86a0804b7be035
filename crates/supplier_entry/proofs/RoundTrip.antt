-- What is written is imported again, what is imported is written again, and a factor is accepted exactly if some n's is it: by cases on the
-- kind. Assumes nothing.
use Rattle.std.proofs.Common.{Option, Some, None}
use Rattle.index.proofs.Kit.{ℕ, ◌+◌, ◌-◌, ◌*◌, ◌<◌, ◌≤◌, ◌≡◌, refl, sym, ap, ◌∙◌, Bool, true, false, not, arith, by_test, by_order}
use Prim.Native.Nat.{zero, suc, ◌/◌, ◌%◌, ◌^◌}
use mathlib.Core.Path.{ap₂}
use native.Mathlib.Nat.{div-add-mod', add-zero, mul-mod_left, mul-div_cancel, mul-le-mul, le_refl}
use borrow.Author.Tests.{eq-eqb, eqb-true, lt-ltb, le-ltb}
use lib.Dec.{T, eqb, leb→le}
use lib.IntN.{ℤ, pos, negsuc, nat_abs}
use lib.Signed.{le_z}
use lib.Ieee.{binary64, nan_bits, is_nan, of_int, of_bits, to_bits, fits}
use lib.Ieee.Bits.{nan_bits_is, to_bits-of_bits, of_bits-to_bits, to_bits-lt}
use lib.Ieee.Fits.{div-fits}
use Rattle.index.proofs.Index.{both}
use Rattle.limits.specs.declared.Limit.{Limit}
use Rattle.limits.specs.Limits.{lies}
use Rattle.limits.proofs.LimitLaws.{yes, size_most}
use Rattle.supplier_entry.specs.declared.Form.{Form}
use Rattle.supplier_entry.specs.Factor.{thousand, factor_of, factor_bits, thousandths_of}
use Rattle.supplier_entry.specs.Entries.{factor_kind, whole_kind, span_kind, twos, twos_of, entry_of, as_number, whole_of, units_of}
use Rattle.supplier_entry.specs.Entries.{convert_of, read_number, import_of, content_of}
use Rattle.supplier_entry.specs.Asked.{Among, Field, Writable}
use Rattle.supplier_entry.specs.RoundTrip.{AcceptedExactly, OnlyOne, ImportsBack, ExportsBack}
use Rattle.supplier_entry.proofs.FactorLaws.{factor_no_nan, only_one, thousandths_found, thousandths_back}
use Rattle.supplier_entry.proofs.EntryLaws.{entry_none, content_factor, content_whole, content_span}

is_false : (t : Bool) → T (not t) → t ≡ false
is_false true h = absurd h
is_false false h = refl

-- a number between two natural ones
natural :
    (lo z hi : ℤ) → pos (nat_abs lo) ≡ lo → pos (nat_abs hi) ≡ hi → T (le_z lo z) → T (le_z z hi) →
    (pos (nat_abs z) ≡ z) × (nat_abs z ≤ nat_abs hi)
natural lo (pos n) (pos h) a b s t = (refl, leb→le n h t)
natural lo (pos n) (negsuc h) a b s t = absurd t
natural (pos l) (negsuc n) hi a b s t = absurd s
natural (negsuc l) (negsuc n) hi a b s t = let z : ◌≡◌ {A = ℕ} 0 1 = cc in absurd (omega arith)

-- ---- factors
factor_fits : (n : ℕ) → T (fits binary64 (factor_of n))
unfolding factor_of
factor_fits n = div-fits binary64 (of_int binary64 (pos n)) thousand

pub factor_lt_64 : (n : ℕ) → factor_bits n < 2 ^ 64
unfolding factor_bits
factor_lt_64 n = to_bits-lt binary64 (factor_of n) (factor_fits n)

-- no factor has a NaN's pattern
factor_clean : (n : ℕ) → n ≤ 1000 → nan_bits binary64 (factor_bits n) ≡ false
unfolding factor_bits
factor_clean n h =
    nan_bits_is binary64 (factor_bits n)
    ∙ ap is_nan (of_bits-to_bits binary64 (factor_of n) (factor_fits n))
    ∙ is_false (is_nan (factor_of n)) (factor_no_nan n h)

nan_none : (l : Limit) (u : ℕ) → Among l → nan_bits binary64 u ≡ true → (r : Option ℕ) → thousandths_of l u ≡ r → None ≡ as_number r
nan_none l u g t (Some n) e =
    let f = thousandths_found l u n e in
    let c : nan_bits binary64 u ≡ false = rw f.2 at (factor_clean n (omega (arith, g.most, f.0))) in
    let z : ◌≡◌ {A = ℕ} 0 1 = cc in
    absurd (omega arith)
nan_none l u g t None e = refl

same_bits : (u : ℕ) → u < 2 ^ 64 → nan_bits binary64 u ≡ false → to_bits binary64 (of_bits binary64 u) ≡ u
same_bits u room t = to_bits-of_bits binary64 u room (rw (sym (nan_bits_is binary64 u) ∙ t) tt)

pub accepted_exactly : AcceptedExactly
unfolding import_of entry_of convert_of
accepted_exactly form l u k g room =
    rw (eq-eqb 0 form.kind (sym k))
    (by_test (read_number l form.unit (entry_of 0 u) ≡ as_number (thousandths_of l u)) (nan_bits binary64 u)
    (λ t. rw t (nan_none l u g t (thousandths_of l u) refl))
    (λ t. rw (t, same_bits u room t)))

pub only_one_factor : OnlyOne
only_one_factor = only_one

-- ---- two's complement
twos_back : (z : ℤ) → nat_abs z < 2 ^ 63 → twos (twos_of z) ≡ z
unfolding twos twos_of
twos_back (pos n) h = rw (lt-ltb n (2 ^ 63) h)
twos_back (negsuc n) h = rw (le-ltb (2 ^ 64 - 1 - n) (2 ^ 63) (omega arith)) (ap negsuc (omega arith))

twos_lt : (z : ℤ) → nat_abs z < 2 ^ 63 → twos_of z < 2 ^ 64
unfolding twos_of
twos_lt (pos n) h = omega arith
twos_lt (negsuc n) h = omega arith

twos_again : (u : ℕ) → u < 2 ^ 64 → twos_of (twos u) ≡ u
unfolding twos twos_of
twos_again u h = by_order (twos_of (twos u) ≡ u) u (2 ^ 63) (λ l. rw (lt-ltb u (2 ^ 63) l)) (λ g. rw (le-ltb u (2 ^ 63) g) (omega arith))

-- ---- a number between the limits of a row of the table
module _ (form : Form) (l : Limit) (z : ℤ) (row : Field form l) (h : lies z l ≡ true) where
  sides : T (le_z l.low z) × T (le_z z l.high)
  sides = let t = both (le_z l.low z) (le_z z l.high) h in (yes (le_z l.low z) t.0, yes (le_z z l.high) t.1)

  -- its magnitude is no more than that of one of the limits
  size_sum : nat_abs z ≤ nat_abs l.low + nat_abs l.high
  size_sum = size_most l.low z l.high (nat_abs l.low + nat_abs l.high) sides.0 sides.1 (omega arith) (omega arith)

  -- where the limits are natural numbers, so is it, and it is no more than the high one
  plain : pos (nat_abs l.low) ≡ l.low → pos (nat_abs l.high) ≡ l.high → (pos (nat_abs z) ≡ z) × (nat_abs z ≤ nat_abs l.high)
  plain a b = natural l.low z l.high a b sides.0 sides.1

  units_room : nat_abs z * form.unit < 2 ^ 63
  units_room = let m = mul-le-mul size_sum (le_refl form.unit) in let w = row.room in omega arith

  factor_most : form.kind ≡ factor_kind → (pos (nat_abs z) ≡ z) × (nat_abs z ≤ nat_abs l.high)
  factor_most e = let g = row.fit.factors e in plain g.low g.high

  -- what the writer asks
  pub writable : Writable form z
  writable =
      record { factors = λ e. let g = row.fit.factors e in omega (arith, (factor_most e).1, g.most); spans = omega (arith, units_room) }

  pub content_lt : content_of form z < 2 ^ 64
  unfolding content_of
  content_lt =
      by_test (content_of form z < 2 ^ 64) (eqb form.kind factor_kind)
      (λ t. rw t (factor_lt_64 (nat_abs z)))
      (λ t.
      by_test (content_of form z < 2 ^ 64) (eqb form.kind whole_kind)
      (λ s. rw (t, s) (twos_lt z (omega (arith, size_sum, row.size.0, row.size.1))))
      (λ s. rw (t, s) (omega (arith, units_room))))

  imports_factor : form.kind ≡ factor_kind → import_of form l factor_kind (factor_bits (nat_abs z)) ≡ Some z
  imports_factor e =
      let g = row.fit.factors e in
      let p = factor_most e in
      accepted_exactly form l (factor_bits (nat_abs z)) e g (factor_lt_64 (nat_abs z))
      ∙ ap as_number (thousandths_back l (nat_abs z) g p.1 (rw p.0 h))
      ∙ ap Some p.0

  imports_whole : form.kind ≡ whole_kind → import_of form l whole_kind (twos_of z) ≡ Some z
  unfolding import_of entry_of convert_of whole_of
  imports_whole e = rw (eq-eqb whole_kind form.kind (sym e), twos_back z (omega (arith, size_sum, row.size.0, row.size.1)), h)

  imports_span : form.kind ≡ span_kind → import_of form l span_kind (nat_abs z * form.unit) ≡ Some z
  unfolding import_of entry_of convert_of units_of whole_of
  imports_span e =
      let n = row.natural e in
      let p = plain n.0 n.1 in
      let u = row.fit.spans e in
      rw (
        eq-eqb span_kind form.kind (sym e),
        mul-mod_left (nat_abs z) form.unit,
        mul-div_cancel (nat_abs z) (let q : 0 < form.unit = omega arith in q),
        p.0,
        h,
      )

  -- by the kind, and what is written with it
  pub imports : import_of form l form.kind (content_of form z) ≡ Some z
  imports = go form.kind refl
    where
      with_kind : (k u : ℕ) → form.kind ≡ k → u ≡ content_of form z → import_of form l k u ≡ Some z →
          import_of form l form.kind (content_of form z) ≡ Some z
      with_kind k u e c d = ap₂ (import_of form l) e (sym c) ∙ d

      go : (k : ℕ) → form.kind ≡ k → import_of form l form.kind (content_of form z) ≡ Some z
      go zero e = with_kind 0 (factor_bits (nat_abs z)) e (content_factor form z (nat_abs z) _ e refl refl) (imports_factor e)
      go (suc zero) e = with_kind 1 (twos_of z) e (content_whole form z _ e refl) (imports_whole e)
      go (suc (suc zero)) e =
          with_kind 2 (nat_abs z * form.unit) e (content_span form z (nat_abs z) (λ a. omega arith) (λ a. omega arith) refl) (imports_span e)
      go (suc (suc (suc k))) e = absurd (omega (arith, row.three))

pub imports_back : ImportsBack
imports_back = imports

-- ---- what is imported, written again
is_same : (a b : ℤ) → Some a ≡ Some b → a ≡ b
is_same a b e = cc

not_broken : {A : Type 0} (z : ℤ) → None ≡ Some z → A
not_broken z e = let y : ◌≡◌ {A = ℕ} 0 1 = cc in absurd (omega arith)

module _ (form : Form) (l : Limit) (u : ℕ) (z : ℤ) (room : u < 2 ^ 64) where
  again_factor : (f : Option ℕ) → thousandths_of l u ≡ f → as_number f ≡ Some z → factor_bits (nat_abs z) ≡ u
  again_factor (Some n) e d = rw (sym (is_same (pos n) z d)) (thousandths_found l u n e).2
  again_factor None e d = not_broken z d

  again_whole : (y : ℤ) → whole_of l y ≡ Some z → y ≡ z
  unfolding whole_of
  again_whole y d = by_test (y ≡ z) (lies y l) (λ t. is_same y z (rw t at d)) (λ t. not_broken z (rw t at d))

  again_span : units_of l form.unit u ≡ Some z → nat_abs z * form.unit ≡ u
  unfolding units_of
  again_span d =
      by_test (nat_abs z * form.unit ≡ u) (eqb (u % form.unit) 0)
      (λ t.
      let e = again_whole (pos (u / form.unit)) (rw t at d) in
      let q = eqb-true (u % form.unit) 0 t in
      rw (sym e) (sym (add-zero (u / form.unit * form.unit)) ∙ ap (λ (k : ℕ). u / form.unit * form.unit + k) (sym q)
      ∙ div-add-mod' u form.unit))
      (λ t. not_broken z (rw t at d))

  again_kind : (k : ℕ) → form.kind ≡ k → read_number l form.unit (entry_of k u) ≡ Some z → content_of form z ≡ u
  unfolding entry_of convert_of content_of
  again_kind zero e d =
      rw e
      (by_test (factor_bits (nat_abs z) ≡ u) (nan_bits binary64 u)
      (λ t. not_broken z (rw t at d))
      (λ t. again_factor (thousandths_of l u) refl (rw (t, same_bits u room t) at d)))
  again_kind (suc zero) e d = rw (e, sym (again_whole (twos u) d)) (twos_again u room)
  again_kind (suc (suc zero)) e d = rw e (again_span d)
  again_kind (suc (suc (suc k))) e d =
      let none = entry_none (suc (suc (suc k))) u (λ a. omega arith) (λ a. omega arith) (λ a. omega arith) in
      not_broken z (ap (read_number l form.unit) none ∙ d)

pub exports_back : ExportsBack
unfolding import_of
exports_back form l kind u z room d =
    by_test ((kind ≡ form.kind) × (content_of form z ≡ u)) (eqb kind form.kind)
    (λ t. let k = eqb-true kind form.kind t in (k, again_kind form l u z room kind (sym k) (rw t at d)))
    (λ t. not_broken z (rw t at d))
