-- The first pass of a load, number by number.
-- Assumes nothing.
use Rattle.std.proofs.Common.{Option, Some, None, Ok, Err}
use Prim.Native.Nat.{ℕ, zero, suc, ◌+◌, ◌-◌, ◌<◌, ◌≤◌}
use native.Mathlib.Omega.{arith}
use mathlib.Core.Path.{◌≡◌, refl, sym, ap, ◌∙◌}
use mathlib.Core.List.{List}
use Rattle.varint.specs.Groups.{read_at}
use Rattle.saves.specs.declared.LoadError.TheVariants.{Malformed}
use Rattle.saves.specs.Load.{Parse, numbers, malformed, then, parse_from}
use Rattle.save_load.specs.Skim.{skim_of}
use Rattle.saves.proofs.Parsing.{top}

skim_then : (v : ℕ) (p : Parse) → skim_of (then v p) ≡ skim_of p
skim_then v (numbers l next) = refl
skim_then v (malformed p) = refl

module _ (s : List ℕ) (at : ℕ) (r : Option (ℕ × ℕ)) (e : r ≡ read_at top s at) where
  -- m is how many are left then
  pub skim_more : (n v next : ℕ) → 0 < n → r ≡ Some (v, next) → (m : ℕ) → m + 1 ≡ n → skim_of (parse_from m s next) ≡ skim_of (parse_from n s at)
  unfolding parse_from
  skim_more zero v next h q m k = absurd (omega arith)
  skim_more (suc n) v next h q m k =
      let z : m ≡ n = omega arith in
      let f : read_at top s at ≡ Some (v, next) = sym e ∙ q in
      rw (z, f) (sym (skim_then v (parse_from n s next)))

  pub skim_bad : (n : ℕ) → 0 < n → r ≡ None → Err (Malformed at) ≡ skim_of (parse_from n s at)
  unfolding parse_from
  skim_bad zero h q = absurd (omega arith)
  skim_bad (suc n) h q = let f : read_at top s at ≡ None = sym e ∙ q in rw f

pub skim_none : (s : List ℕ) (at n : ℕ) → skim_of (parse_from (n - 0) s at) ≡ skim_of (parse_from n s at)
skim_none s at n = let z : n - 0 ≡ n = omega arith in ap (λ (m : ℕ). skim_of (parse_from m s at)) z

pub skim_done : (s : List ℕ) (at n : ℕ) → n ≤ 0 → Ok at ≡ skim_of (parse_from n s at)
unfolding parse_from
skim_done s at zero h = refl
skim_done s at (suc n) h = absurd (omega arith)
