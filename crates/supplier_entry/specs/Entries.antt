-- An entry of the other supplier's parameters (02, order 12), and the number of ours that it stands for: "nine bytes each: a kind, then
-- eight bytes, low first". Here the eight bytes are one number u.
use Rattle.std.specs.Prelude.{Option, Some, None}
use Rattle.std.specs.Prelude.{ℕ, ◌-◌, ◌*◌, ◌/◌, ◌%◌, ◌^◌, cond, ltb, eqb, ℤ, pos, negsuc, nat_abs}
use Rattle.std.specs.Float.{binary64}
use Rattle.std.specs.Float.Ieee.{nan_bits, of_bits, to_bits}
use Rattle.limits.specs.declared.Limit.{Limit}
use Rattle.limits.specs.Limits.{lies}
use Rattle.supplier_entry.specs.declared.Entry.{Entry}
use Rattle.supplier_entry.specs.declared.Entry.TheVariants.{Factor, Whole, Span}
use Rattle.supplier_entry.specs.declared.Form.{Form}
use Rattle.supplier_entry.specs.Factor.{factor_bits, thousandths_of}

-- the three kinds
abbrev pub factor_kind : ℕ
factor_kind = 0

abbrev pub whole_kind : ℕ
whole_kind = 1

abbrev pub span_kind : ℕ
span_kind = 2

-- "a signed whole number": two's complement
unfoldable pub twos : ℕ → ℤ
twos u = cond (ltb u (2 ^ 63)) (pos u) (negsuc (2 ^ 64 - 1 - u))

unfoldable pub twos_of : ℤ → ℕ
twos_of (pos n) = n
twos_of (negsuc n) = 2 ^ 64 - 1 - n

-- "Kind 0 is a factor as a 64-bit float [..], 2 a span in nanoseconds, unsigned [..], 1 a signed whole number [..]. Each entry is one of
-- these kinds." The patterns of a NaN are no float that n divided by 1000 could be.
unfoldable pub entry_of : ℕ → ℕ → Option Entry
entry_of kind u =
    cond (eqb kind factor_kind) (cond (nan_bits binary64 u) None (Some (Factor (of_bits binary64 u))))
    (cond (eqb kind whole_kind) (Some (Whole (twos u)))
    (cond (eqb kind span_kind) (Some (Span u)) None))

abbrev pub as_number : Option ℕ → Option ℤ
as_number (Some n) = Some (pos n)
as_number None = None

-- "A whole entry [..] must lie in its limits"
unfoldable pub whole_of : Limit → ℤ → Option ℤ
whole_of l z = cond (lies z l) (Some z) None

-- "and a span as a whole number of our field's seconds or milliseconds": one of them has `unit` nanoseconds
unfoldable pub units_of : Limit → ℕ → ℕ → Option ℤ
units_of l unit t = cond (eqb (t % unit) 0) (whole_of l (pos (t / unit))) None

unfoldable pub convert_of : Limit → ℕ → Entry → Option ℤ
convert_of l unit (Factor x) = as_number (thousandths_of l (to_bits binary64 x))
convert_of l unit (Whole z) = whole_of l z
convert_of l unit (Span t) = units_of l unit t

abbrev pub read_number : Limit → ℕ → Option Entry → Option ℤ
read_number l unit (Some e) = convert_of l unit e
read_number l unit None = None

-- "a wrong kind or broken entry" has no number, whatever its eight bytes are
unfoldable pub import_of : Form → Limit → ℕ → ℕ → Option ℤ
import_of form l kind u = cond (eqb kind form.kind) (read_number l form.unit (entry_of kind u)) None

-- what is written: "each factor is n divided by 1000"
unfoldable pub content_of : Form → ℤ → ℕ
content_of form z =
    cond (eqb form.kind factor_kind) (factor_bits (nat_abs z))
    (cond (eqb form.kind whole_kind) (twos_of z) (nat_abs z * form.unit))
