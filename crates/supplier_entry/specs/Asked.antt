-- What the functions ask of their callers; the table of fields (crate supplier_params) meets it.
use Rattle.std.specs.Prelude.{Option, Some, None}
use Rattle.std.specs.Prelude.{ℕ, ◌+◌, ◌*◌, ◌^◌, ◌<◌, ◌≤◌, ◌≡◌, not, T, ℤ, pos, nat_abs}
use Rattle.std.specs.Float.Ieee.{is_nan}
use Rattle.limits.specs.declared.Limit.{Limit}
use Rattle.supplier_entry.specs.declared.Entry.{Entry}
use Rattle.supplier_entry.specs.declared.Entry.TheVariants.{Factor, Whole, Span}
use Rattle.supplier_entry.specs.declared.Form.{Form}
use Rattle.supplier_entry.specs.Entries.{factor_kind, span_kind}

-- the limits are natural numbers, up to 1000
pub record Among (l : Limit) : Type 0 where
  pub low : pos (nat_abs l.low) ≡ l.low
  pub high : pos (nat_abs l.high) ≡ l.high
  pub most : nat_abs l.high ≤ 1000

abbrev pub Small : Option ℕ → Type 0
Small (Some n) = n < 2 ^ 63
Small None = Unit

-- a factor is no NaN, and its limits are those of factors; a span's unit divides
abbrev pub Sound : Entry → ℕ → Limit → Type 0
Sound (Factor x) unit l = Among l × T (not (is_nan x))
Sound (Whole z) unit l = Unit
Sound (Span t) unit l = 1 < unit

pub record Fit (form : Form) (l : Limit) : Type 0 where
  pub factors : form.kind ≡ factor_kind → Among l
  pub spans : form.kind ≡ span_kind → 1 < form.unit

-- a factor is among the 1001, and a span fits into eight bytes
pub record Writable (form : Form) (z : ℤ) : Type 0 where
  pub factors : form.kind ≡ factor_kind → nat_abs z ≤ 1000
  pub spans : nat_abs z * form.unit < 2 ^ 64

-- a row of the table of fields: one of the three kinds; a factor's and a span's limits are natural numbers; every number between the limits
-- can be written
pub record Field (form : Form) (l : Limit) : Type 0 where
  pub three : form.kind ≤ 2
  pub fit : Fit form l
  pub natural : form.kind ≡ span_kind → (pos (nat_abs l.low) ≡ l.low) × (pos (nat_abs l.high) ≡ l.high)
  pub size : (nat_abs l.low < 2 ^ 62) × (nat_abs l.high < 2 ^ 62)
  pub room : (nat_abs l.low + nat_abs l.high) * form.unit < 2 ^ 63
