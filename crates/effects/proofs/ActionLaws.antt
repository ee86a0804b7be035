-- Laws of actions and of the numbers that stand for them: what a writer of an action list goes by.
-- Assumes nothing.
use Prim.Native.Nat.{ℕ, suc, ◌+◌, ◌*◌}
use mathlib.Core.Path.{◌≡◌, refl, ap}
use mathlib.Core.List.{List, [], ◌∷◌, ◌++◌}
use native.Mathlib.Omega.{arith}
use lib.ListN.{length, set}
use lib.Seq.{sets}
use Rattle.effects.specs.Actions.{Action, numbers_of}

-- three stores, as code makes them, are one run
pub sets_three :
    (l : List ℕ) (at a b c : ℕ) → set (set (set l at a) (at + 1) b) (at + 2) c ≡ sets l at (a ∷ b ∷ c ∷ [])
sets_three l at a b c =
    let e : at + 1 ≡ suc at = omega arith in
    let f : at + 2 ≡ suc (suc at) = omega arith in
    rw (e, f)

pub numbers_append : (a b : List Action) → numbers_of (a ++ b) ≡ numbers_of a ++ numbers_of b
unfolding numbers_of
numbers_append [] b = refl
numbers_append (x ∷ a) b =
    ap (λ (l : List ℕ). x.kind ∷ x.id ∷ x.seconds ∷ l) (numbers_append a b)

pub numbers_length : (l : List Action) → length (numbers_of l) ≡ 3 * length l
unfolding numbers_of
numbers_length [] = refl
numbers_length (x ∷ l) = let h : length (numbers_of l) ≡ 3 * length l = numbers_length l in omega arith
