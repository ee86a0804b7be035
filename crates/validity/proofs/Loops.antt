-- What a loop that gathers a flag over indices computes, `every`, and what one that fills an array does, step by step.
-- Assumes nothing.
use Prim.Native.Nat.{ℕ, ◌+◌, ◌<◌, ◌≤◌}
use native.Mathlib.Nat.{le_antisymm}
use native.Mathlib.Numerals.{add-one}
use native.Mathlib.Omega.{arith}
use mathlib.Core.Path.{◌≡◌, refl}
use mathlib.Core.Bool.{Bool, true, ◌&&◌}
use mathlib.Core.List.{List}
use lib.ListN.{length, get_or, set}
use Rattle.index.specs.Index.{every}
use Rattle.index.proofs.Lists.{built_more}

module _ (f : ℕ → Bool) where
  pub flag_start : true ≡ every 0 f
  unfolding every
  flag_start = refl

  pub flag_next : (i : ℕ) (ok b : Bool) → ok ≡ every i f → b ≡ f i → ok && b ≡ every (i + 1) f
  unfolding every
  flag_next i ok b p q = rw (add-one, p, q)

  pub flag_end : (n i : ℕ) (ok : Bool) → i ≤ n → n ≤ i → ok ≡ every i f → ok ≡ every n f
  flag_end n i ok l h p = rw (le_antisymm h l) p

pub ruleset flag-loop = (flag_start, flag_next, flag_end)

-- what a loop that fills an array from the front has done
pub fill_more :
    (f : ℕ → ℕ) (l : List ℕ) (i v : ℕ) →
    i < length l →
    ((k : ℕ) → k < i → get_or l k 0 ≡ f k) →
    v ≡ f i →
    (k : ℕ) →
    k < i + 1 →
    get_or (set l i v) k 0 ≡ f k
fill_more f l i v b h e =
    (built_more 0 f (length l) i l v b (record { low = omega arith; len = refl; below = h }) e).below
