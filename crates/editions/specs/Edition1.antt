-- Step 3 in 01's own words, and the statement that under 01's rule on D_score it is step 3 as crate mesh has it. Over any slot count n.
use Rattle.std.specs.Prelude.{ℕ, zero, suc, ◌+◌, ◌≤◌, ◌≡◌, Bool, true, false, cond, ◌&&◌, List, length, set, ltb}
use Rattle.sets.specs.Sets.{size, both, except, first_of, last_of}
use Rattle.mesh.specs.Maintenance.{the_best, keepers, mesh3 as stepThree, Rules, Whole}
use Rattle.mesh.specs.declared.Degrees.{Degrees}
use Rattle.mesh.specs.Maintenance.{View}

-- "out goes the last drawn inbound keeper of the non-best, in comes the first left-out outbound in draw order, until D_out or none is left"
module _ (n out : ℕ) (outbound : List Bool) (order : List ℕ) (m b : List Bool) where
  unfoldable pub swap_once : List Bool → List Bool
  swap_once k =
      set (set k (last_of (except (except k outbound) b) order n) false) (first_of (except (both m outbound) k) order n) true

  unfoldable pub swap_to : ℕ → List Bool → List Bool
  swap_to zero k = k
  swap_to (suc f) k =
      cond
      (ltb (size (both k outbound)) out
      && ltb 0 (size (except (both m outbound) k))
      && ltb 0 (size (except (except k outbound) b)))
      (swap_to f (swap_once k))
      k

unfoldable pub mesh3 : ℕ → Degrees → View → List Bool → List Bool
mesh3 n t v m =
    cond (ltb t.hi (size m))
    (swap_to n t.out v.outbound v.permutation m (the_best n t v m) t.out (keepers t v m (the_best n t v m)))
    m

-- under 01's joint rule "D_score + D_out ≤ D" both are the same, of every mesh
abbrev pub AsIn01 : Type 0
AsIn01 =
    (n : ℕ) (t : Degrees) (v : View) →
    Rules t →
    t.score + t.out ≤ t.d →
    Whole n v →
    (m : List Bool) →
    length m ≡ n →
    mesh3 n t v m ≡ stepThree n t v m
