-- A ladder of cases, "first that holds", as code climbs it: each failed test is a rung passed, and the test that holds names the case.
-- Assumes nothing.
use Prim.Native.Nat.{ℕ, ◌<◌, ◌≤◌}
use mathlib.Core.Path.{◌≡◌, refl}
use mathlib.Core.Bool.{Bool, true, false, not, cond}
use lib.Dec.{eqb, ltb}
use borrow.Author.Tests.{eq-eqb, ne_eqb, lt-ltb, le-ltb}

module _ (A : Type 0) (x y : A) where
  pub case_holds : (b : Bool) → b ≡ true → x ≡ cond b x y
  case_holds b e = rw e

  pub case_fails : (z : A) (b : Bool) → b ≡ false → z ≡ y → z ≡ cond b x y
  case_fails z b e h = rw e h

  module _ (n m : ℕ) where
    pub case_equal : n ≡ m → x ≡ cond (eqb n m) x y
    case_equal e = rw (eq-eqb n m e)

    pub case_apart : (z : A) → (n ≡ m → ⊥) → z ≡ y → z ≡ cond (eqb n m) x y
    case_apart z e h = rw (ne_eqb n m e) h

    pub case_unequal : (n ≡ m → ⊥) → x ≡ cond (not (eqb n m)) x y
    case_unequal e = rw (ne_eqb n m e)

    pub case_same : (z : A) → n ≡ m → z ≡ y → z ≡ cond (not (eqb n m)) x y
    case_same z e h = rw (eq-eqb n m e) h

    pub case_below : n < m → x ≡ cond (ltb n m) x y
    case_below e = rw (lt-ltb n m e)

    pub case_above : (z : A) → m ≤ n → z ≡ y → z ≡ cond (ltb n m) x y
    case_above z e h = rw (le-ltb n m e) h

-- the last case, where every test failed
pub case_last : (A : Type 0) (x : A) → x ≡ x
case_last A x = refl

pub ruleset first_holds =
    (case_holds, case_fails, case_equal, case_apart, case_unequal, case_same, case_below, case_above, case_last)
