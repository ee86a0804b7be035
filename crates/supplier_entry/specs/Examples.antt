-- Worked examples of 02, order 12: what the definitions give for some entries. To be changed with 02's text alone.
use Rattle.std.specs.Prelude.{Option, Some, None}
use Rattle.std.specs.Prelude.{ℕ, ◌≡◌, ℤ, pos}
use Rattle.limits.specs.Limits.{to, minus}
use Rattle.supplier_entry.specs.Factor.{factor_bits}
use Rattle.supplier_entry.specs.Entries.{factor_kind, whole_kind, span_kind, import_of, content_of}

-- a decay factor 1..999, decay-to-zero 0..1000, a backoff of 1..3600 s, an activation of 0..3600000 ms, and a weight -100..0
abbrev pub decay : ℕ → ℕ → Option ℤ
decay = import_of (record { kind = factor_kind; unit = 1 }) (to (pos 1) (pos 999))

abbrev pub to_zero : ℕ → ℕ → Option ℤ
to_zero = import_of (record { kind = factor_kind; unit = 1 }) (to (pos 0) (pos 1000))

abbrev pub backoff : ℕ → ℕ → Option ℤ
backoff = import_of (record { kind = span_kind; unit = 1000000000 }) (to (pos 1) (pos 3600))

abbrev pub activation : ℕ → ℕ → Option ℤ
activation = import_of (record { kind = span_kind; unit = 1000000 }) (to (pos 0) (pos 3600000))

abbrev pub weight : ℕ → ℕ → Option ℤ
weight = import_of (record { kind = whole_kind; unit = 1 }) (to (minus 100) (pos 0))

pub record Examples : Type 0 where
  -- ---- factors: 0.97 is 970 / 1000, and its two neighbours are no factor
  pub decay_970 : decay 0 0x3fef_0a3d_70a3_d70a ≡ Some (pos 970)
  pub ulp_above : decay 0 0x3fef_0a3d_70a3_d70b ≡ None
  pub ulp_below : decay 0 0x3fef_0a3d_70a3_d709 ≡ None
  -- 9 / 1000, and 9 times 0.001, which is one above it
  pub divided : decay 0 0x3f82_6e97_8d4f_df3b ≡ Some (pos 9)
  pub multiplied : decay 0 0x3f82_6e97_8d4f_df3c ≡ None
  -- 1.0 is 1000 thousandths, which a decay is not
  pub one : to_zero 0 0x3ff0_0000_0000_0000 ≡ Some (pos 1000)
  pub one_decay : decay 0 0x3ff0_0000_0000_0000 ≡ None
  -- 0.0 is 0; -0.0, an infinity and a NaN are no factor
  pub plus_zero : to_zero 0 0 ≡ Some (pos 0)
  pub minus_zero : to_zero 0 0x8000_0000_0000_0000 ≡ None
  pub infinity : to_zero 0 0x7ff0_0000_0000_0000 ≡ None
  pub no_number : to_zero 0 0x7ff8_0000_0000_0001 ≡ None
  -- ---- spans: 60 s; a nanosecond more is no number of seconds; 0 s lies outside; the same of milliseconds
  pub minute : backoff 2 60000000000 ≡ Some (pos 60)
  pub nanosecond_more : backoff 2 60000000001 ≡ None
  pub no_second : backoff 2 0 ≡ None
  pub millisecond : activation 2 1000000 ≡ Some (pos 1)
  pub half_millisecond : activation 2 1500000 ≡ None
  -- ---- whole numbers: two's complement, within the limits
  pub minus_one : weight 1 0xffff_ffff_ffff_ffff ≡ Some (minus 1)
  pub minus_101 : weight 1 0xffff_ffff_ffff_ff9b ≡ None
  pub plus_one : weight 1 1 ≡ None
  -- ---- a wrong kind is broken, whatever the eight bytes are
  pub span_as_whole : weight 2 0 ≡ None
  pub factor_as_span : backoff 0 60000000000 ≡ None
  pub fourth_kind : weight 3 0 ≡ None
  -- ---- what is written
  pub tenth : factor_bits 100 ≡ 0x3fb9_9999_9999_999a
  pub wrote_minute : content_of (record { kind = span_kind; unit = 1000000000 }) (pos 60) ≡ 60000000000
  pub wrote_minus_one : content_of (record { kind = whole_kind; unit = 1 }) (minus 1) ≡ 0xffff_ffff_ffff_ffff
