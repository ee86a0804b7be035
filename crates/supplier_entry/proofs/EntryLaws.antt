-- Laws of entries: the ends of the functions that read, convert and write one.
-- Assumes nothing.
use Rattle.std.proofs.Common.{Option, Some, None}
use Prim.Native.Nat.{ℕ, ◌-◌, ◌*◌, ◌/◌, ◌%◌, ◌^◌, ◌<◌, ◌≤◌}
use mathlib.Core.Path.{◌≡◌, refl, sym, ◌∙◌, subst}
use mathlib.Core.Bool.{Bool, true, false, not, cond}
use native.Mathlib.Omega.{arith}
use native.Mathlib.Nat.{div-add-mod', mul-le-mul, le_refl}
use borrow.Author.Tests.{eq-eqb, ne_eqb, eqb-true, lt-ltb, le-ltb}
use lib.Dec.{T, ltb, eqb}
use lib.IntN.{ℤ, pos, negsuc, nat_abs}
use lib.Ieee.{Float, binary64, nan_bits, is_nan, of_bits, to_bits}
use lib.Ieee.Bits.{nan_bits_above, nan_bits_is}
use Rattle.varint.specs.Codes.{negative}
use Rattle.limits.specs.declared.Limit.{Limit}
use Rattle.limits.specs.Limits.{lies}
use Rattle.supplier_entry.specs.declared.Entry.{Entry}
use Rattle.supplier_entry.specs.declared.Entry.TheVariants.{Factor, Whole, Span}
use Rattle.supplier_entry.specs.declared.Form.{Form}
use Rattle.supplier_entry.specs.Factor.{factor_bits, thousandths_of}
use Rattle.supplier_entry.specs.Entries.{twos, twos_of, entry_of, as_number, whole_of, units_of, convert_of, import_of, content_of}
use Rattle.supplier_entry.specs.Asked.{Among, Small, Sound, Fit}
use Rattle.supplier_entry.proofs.FactorLaws.{thousandths_found}

-- ---- the NaN test, as the code has it
pub nan_test : (u : ℕ) → ltb 9218868437227405312 (u % 9223372036854775808) ≡ nan_bits binary64 u
nan_test u = sym (nan_bits_above binary64 u)

-- ---- two's complement
pub twos_low : (u : ℕ) → u < 2 ^ 63 → pos u ≡ twos u
unfolding twos
twos_low u h = rw (lt-ltb u (2 ^ 63) h)

pub twos_high : (u : ℕ) → 2 ^ 63 ≤ u → negsuc (2 ^ 64 - 1 - u) ≡ twos u
unfolding twos
twos_high u h = rw (le-ltb u (2 ^ 63) h)

-- a negative number's magnitude is not 0
pub minus_one : (z : ℤ) (m : ℕ) → true ≡ negative z → m ≡ nat_abs z → 1 ≤ m
minus_one (pos n) m e p = let z : ◌≡◌ {A = ℕ} 0 1 = cc in absurd (omega arith)
minus_one (negsuc n) m e p = omega arith

pub bits_minus : (z : ℤ) (m : ℕ) → true ≡ negative z → m ≡ nat_abs z → 2 ^ 64 - 1 - (m - 1) ≡ twos_of z
unfolding twos_of
bits_minus (pos n) m e p = let z : ◌≡◌ {A = ℕ} 0 1 = cc in absurd (omega arith)
bits_minus (negsuc n) m e p = rw p (omega arith)

pub bits_plus : (z : ℤ) (m : ℕ) → false ≡ negative z → m ≡ nat_abs z → m ≡ twos_of z
unfolding twos_of
bits_plus (pos n) m e p = p
bits_plus (negsuc n) m e p = let z : ◌≡◌ {A = ℕ} 0 1 = cc in absurd (omega arith)

-- ---- the ends of `read_entry`
module _ (kind u : ℕ) where
  pub entry_nan : (t : Bool) → kind ≡ 0 → t ≡ nan_bits binary64 u → t ≡ true → None ≡ entry_of kind u
  unfolding entry_of
  entry_nan t e n y = rw (e, ← n, y)

  pub entry_factor : (t : Bool) → kind ≡ 0 → t ≡ nan_bits binary64 u → t ≡ false → Some (Factor (of_bits binary64 u)) ≡ entry_of kind u
  unfolding entry_of
  entry_factor t e n y = rw (e, ← n, y)

  pub entry_whole : (z : ℤ) → kind ≡ 1 → z ≡ twos u → Some (Whole z) ≡ entry_of kind u
  unfolding entry_of
  entry_whole z e t = rw (e, t)

  pub entry_span : kind ≡ 2 → Some (Span u) ≡ entry_of kind u
  unfolding entry_of
  entry_span e = rw e

  pub entry_none : (kind ≡ 0 → ⊥) → (kind ≡ 1 → ⊥) → (kind ≡ 2 → ⊥) → None ≡ entry_of kind u
  unfolding entry_of
  entry_none a b c = rw (ne_eqb kind 0 a, ne_eqb kind 1 b, ne_eqb kind 2 c)

pub not_nan : (t b : Bool) → t ≡ b → t ≡ false → T (not b)
not_nan t b e y = rw (← e, y) tt

-- ---- whole numbers and spans
module _ (l : Limit) (z : ℤ) where
  pub whole_in : (t : Bool) → t ≡ lies z l → t ≡ true → Some z ≡ whole_of l z
  unfolding whole_of
  whole_in t e y = rw (← e, y)

  pub whole_out : (t : Bool) → t ≡ lies z l → t ≡ false → None ≡ whole_of l z
  unfolding whole_of
  whole_out t e y = rw (← e, y)

module _ (l : Limit) (unit t : ℕ) where
  pub units_part : (t % unit ≡ 0 → ⊥) → None ≡ units_of l unit t
  unfolding units_of
  units_part n = rw (ne_eqb (t % unit) 0 n)

  pub units_whole : (r : Option ℤ) → t % unit ≡ 0 → r ≡ whole_of l (pos (t / unit)) → r ≡ units_of l unit t
  unfolding units_of
  units_whole r e p = p ∙ rw e

-- half of what eight bytes hold, or less
pub units_lt : (unit t : ℕ) → 1 < unit → t < 2 ^ 64 → t / unit < 2 ^ 63
units_lt unit t h l =
    let d = div-add-mod' t unit in
    let m : (t / unit) * 2 ≤ (t / unit) * unit = mul-le-mul (le_refl (t / unit)) h in
    omega arith

-- ---- the ends of `number_of`
pub small_at : (f : Option ℕ) (n : ℕ) → f ≡ Some n → Small f → n < 2 ^ 63
small_at f n e s = subst Small e s

pub number_at : (f : Option ℕ) (n : ℕ) (z : ℤ) → f ≡ Some n → z ≡ pos n → Some z ≡ as_number f
number_at f n z e p = rw (e, p)

pub number_none : (f : Option ℕ) → f ≡ None → None ≡ as_number f
number_none f e = rw e

pub small_factor : (l : Limit) (u : ℕ) (r : Option ℕ) → Among l → r ≡ thousandths_of l u → Small r
small_factor l u (Some n) g e = omega (arith, g.most, (thousandths_found l u n (sym e)).0)
small_factor l u None g e = tt

-- ---- the ends of `convert`
module _ (e : Entry) (unit : ℕ) (l : Limit) where
  pub sound_factor : (x : Float) → e ≡ Factor x → Sound e unit l → Among l × T (not (is_nan x))
  sound_factor x p s = subst (λ (y : Entry). Sound y unit l) p s

  pub sound_span : (t : ℕ) → e ≡ Span t → Sound e unit l → 1 < unit
  sound_span t p s = subst (λ (y : Entry). Sound y unit l) p s

  pub convert_factor :
      (x : Float) (f : Option ℕ) (r : Option ℤ) → e ≡ Factor x → f ≡ thousandths_of l (to_bits binary64 x) → r ≡ as_number f → r
      ≡ convert_of l unit e
  unfolding convert_of
  convert_factor x f r p t v = rw (p, v, t)

  pub convert_whole : (z : ℤ) (r : Option ℤ) → e ≡ Whole z → r ≡ whole_of l z → r ≡ convert_of l unit e
  unfolding convert_of
  convert_whole z r p v = rw (p, v)

  pub convert_span : (t : ℕ) (r : Option ℤ) → e ≡ Span t → r ≡ units_of l unit t → r ≡ convert_of l unit e
  unfolding convert_of
  convert_span t r p v = rw (p, v)

-- ---- the ends of `import`
sound_if :
    (l : Limit) (unit u : ℕ) (t : Bool) (e : Entry) → nan_bits binary64 u ≡ t → Among l →
    cond t None (Some (Factor (of_bits binary64 u))) ≡ Some e → Sound e unit l
sound_if l unit u true e n h p = let z : ◌≡◌ {A = ℕ} 0 1 = cc in absurd (omega arith)
sound_if l unit u false e n h p =
    let q : Factor (of_bits binary64 u) ≡ e = cc in
    subst (λ (y : Entry). Sound y unit l) q (h, not_nan (nan_bits binary64 u) (is_nan (of_bits binary64 u)) (nan_bits_is binary64 u) n)

-- what is read is fit to be converted
pub read_sound :
    (kind u : ℕ) (form : Form) (l : Limit) (r : Option Entry) (e : Entry) → kind ≡ form.kind → Fit form l → r ≡ entry_of kind u → r ≡ Some e →
    Sound e form.unit l
unfolding entry_of
read_sound kind u form l r e same fit d g = zeroth (eqb kind 0) refl (eqb kind 1) (eqb kind 2) refl (sym d ∙ g)
  where
    last : (c : Bool) → eqb kind 2 ≡ c → cond c (Some (Span u)) None ≡ Some e → Sound e form.unit l
    last true t q = let s : Span u ≡ e = cc in subst (λ (y : Entry). Sound y form.unit l) s (fit.spans (sym same ∙ eqb-true kind 2 t))
    last false t q = let z : ◌≡◌ {A = ℕ} 0 1 = cc in absurd (omega arith)

    second : (b c : Bool) → eqb kind 2 ≡ c → cond b (Some (Whole (twos u))) (cond c (Some (Span u)) None) ≡ Some e → Sound e form.unit l
    second true c t q = let s : Whole (twos u) ≡ e = cc in subst (λ (y : Entry). Sound y form.unit l) s tt
    second false c t q = last c t q

    zeroth :
        (a : Bool) → eqb kind 0 ≡ a → (b c : Bool) → eqb kind 2 ≡ c →
        cond a (cond (nan_bits binary64 u) None (Some (Factor (of_bits binary64 u))))
        (cond b (Some (Whole (twos u))) (cond c (Some (Span u)) None)) ≡ Some e → Sound e form.unit l
    zeroth true s b c t q = sound_if l form.unit u (nan_bits binary64 u) e refl (fit.factors (sym same ∙ eqb-true kind 0 s)) q
    zeroth false s b c t q = second b c t q

module _ (form : Form) (l : Limit) (kind u : ℕ) where
  pub import_other : (kind ≡ form.kind → ⊥) → None ≡ import_of form l kind u
  unfolding import_of
  import_other n = rw (ne_eqb kind form.kind n)

  module _ (r : Option Entry) (same : kind ≡ form.kind) (d : r ≡ entry_of kind u) where
    pub import_bad : r ≡ None → None ≡ import_of form l kind u
    unfolding import_of
    import_bad q = rw (eq-eqb kind form.kind same, ← d, q)

    pub import_good : (e : Entry) (n : Option ℤ) → r ≡ Some e → n ≡ convert_of l form.unit e → n ≡ import_of form l kind u
    unfolding import_of
    import_good e n q t = t ∙ rw (eq-eqb kind form.kind same, ← d, q)

-- ---- the ends of `content_of`
module _ (form : Form) (z : ℤ) where
  pub content_factor : (m r : ℕ) → form.kind ≡ 0 → m ≡ nat_abs z → r ≡ factor_bits m → r ≡ content_of form z
  unfolding content_of
  content_factor m r e p q = rw (e, q, p)

  pub content_whole : (r : ℕ) → form.kind ≡ 1 → r ≡ twos_of z → r ≡ content_of form z
  unfolding content_of
  content_whole r e q = rw (e, q)

  pub content_span : (m : ℕ) → (form.kind ≡ 0 → ⊥) → (form.kind ≡ 1 → ⊥) → m ≡ nat_abs z → m * form.unit ≡ content_of form z
  unfolding content_of
  content_span m a b p = rw (ne_eqb form.kind 0 a, ne_eqb form.kind 1 b, p)
