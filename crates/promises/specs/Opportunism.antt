-- A heartbeat's numbers, from the sheet's own, and step 5 by them.
use Rattle.std.specs.Prelude.{ℕ, ◌+◌, ◌*◌, ◌≤◌, ◌<◌, ◌≡◌, ◌≢◌, ◌⊎◌, List, nat_abs}
use Rattle.params.specs.declared.Params.{Params}
use Rattle.limits.specs.Limits.{at}
use Rattle.records.specs.Records.{State, slot_count}
use Rattle.sets.specs.Sets.{size, by_slot, both, above, fill}
use Rattle.mesh.specs.declared.Degrees.{Degrees}
use Rattle.mesh.specs.Maintenance.{Meshes}
use Rattle.mesh.specs.Maintenance.{zero_score, median}
use Rattle.rules.specs.Step.{is_candidate, height_in, degrees_in, meshes_in}
use Rattle.call_lists.specs.Lists.{Start, Made, after}
use Rattle.call_lists.specs.Demand3.{Accepted}

-- "General, index 0 on: D_lo, D, D_hi [..]; D_out [..]; D_score [..]; opportunistic threshold [..] in thousandths of a point" (index 8).
-- Scores are moved up by 2.6 × 10^18 here, as maintenance takes them.
abbrev pub opportunistic : Params → ℕ
opportunistic params = zero_score + nat_abs (at params.numbers 8) * 1000000

abbrev pub degrees_of : Params → Degrees
degrees_of params =
    record {
      lo = nat_abs (at params.numbers 0);
      d = nat_abs (at params.numbers 1);
      hi = nat_abs (at params.numbers 2);
      out = nat_abs (at params.numbers 3);
      score = nat_abs (at params.numbers 4);
      threshold = opportunistic params;
    }

-- "The median of n sorted upward", of the mesh that step 4 left
abbrev pub middle : State → Meshes → ℕ
middle st m = median m.fourth (by_slot slot_count (height_in st))

-- "5. If asked, mesh ≥ 2 and median < threshold: graft up to 2 candidates not yet grafted with scores above the median, in draw order."
pub record Fifth (params : Params) (st : State) (time t ask : ℕ) (order : List ℕ) (m : Meshes) : Type 0 where
  pub still : (ask ≢ 1) ⊎ ((size m.fourth < 2) ⊎ (opportunistic params ≤ middle st m)) → m.fifth ≡ m.fourth
  pub grafts :
      ask ≡ 1 →
      2 ≤ size m.fourth →
      middle st m < opportunistic params →
      m.fifth
      ≡ fill
      (both (by_slot slot_count (is_candidate st time t)) (above (middle st m) (by_slot slot_count (height_in st))))
      2
      order
      m.fourth

pub record FromSheet (params : Params) (st : State) : Type 0 where
  pub degrees : degrees_in st ≡ degrees_of params
  pub fifth : (time t ask : ℕ) (order : List ℕ) → Fifth params st time t ask order (meshes_in st time t ask order)

abbrev pub Opportunism : Type 0
Opportunism = (start : Start) (calls : List Made) → Accepted start → FromSheet start.params (after start calls)
