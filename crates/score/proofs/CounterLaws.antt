-- Deliveries, P3b's growth and decay keep every counter in its range, and a decay keeps graft time plus mesh time at the clock.
-- Assumes nothing.
use Prim.Native.Nat.{ℕ, ◌+◌, ◌-◌, ◌*◌, ◌/◌, ◌≤◌, zero-le}
use native.Mathlib.Omega.{arith}
use mathlib.Core.Path.{◌≡◌, refl}
use native.Mathlib.Nat.{mul-le-mul, le_refl}
use lib.Dec.{ltb}
use Rattle.index.proofs.Flags.{cond_case}
use Rattle.records.specs.declared.TopicRecord.{TopicRecord}
use Rattle.score.specs.declared.TopicParams.{TopicParams}
use Rattle.score.specs.Ranges.{TopicParamsIn, CountersIn, CountersWithin}
use Rattle.score.specs.Parts.{is_member}
use Rattle.score.specs.Counters.{raised_of, raised3_of, first_of, near_first_of, invalid_of, faded_of, mesh_of, decayed_of}

-- what decays does not grow
pub faded_less : (floor factor x : ℕ) → factor ≤ 1000 → faded_of floor factor x ≤ x
unfolding faded_of
faded_less floor factor x h =
    let p : x * factor ≤ x * 1000 = mul-le-mul (le_refl x) h in
    let q : x * factor / 1000 ≤ x = omega arith in
    cond_case
    (λ (n : ℕ). n ≤ x)
    (ltb (x * factor / 1000) floor)
    0
    (x * factor / 1000)
    (λ _. zero-le)
    (λ _. q)

-- nothing fades to nothing
pub faded_nothing : (floor factor : ℕ) → faded_of floor factor 0 ≡ 0
unfolding faded_of
faded_nothing floor factor =
    cond_case
    (λ (n : ℕ). n ≡ 0)
    (ltb (0 * factor / 1000) floor)
    0
    (0 * factor / 1000)
    (λ _. refl)
    (λ _. omega arith)

module _ (t : TopicParams) (r : TopicRecord) where
  pub within_in : TopicParamsIn t → CountersWithin t r → CountersIn r
  within_in h k = record { p2 = omega arith; p3 = omega arith; p4 = k.p4; p3b = k.p3b }

  module _ (k : CountersWithin t r) where
    raised3_within : raised3_of t r ≤ t.cap3
    unfolding raised3_of
    raised3_within =
        cond_case
        (λ (n : ℕ). n ≤ t.cap3)
        (is_member r)
        (raised_of r.p3 t.cap3)
        r.p3
        (λ _. omega arith)
        (λ _. k.p3)

    pub first_within : CountersWithin t (first_of t r)
    unfolding first_of
    first_within = record { p2 = omega arith; p3 = raised3_within; p4 = k.p4; p3b = k.p3b }

    pub near_first_within : CountersWithin t (near_first_of t r)
    unfolding near_first_of
    near_first_within = record { p2 = k.p2; p3 = raised3_within; p4 = k.p4; p3b = k.p3b }

    pub invalid_within : CountersWithin t (invalid_of r)
    unfolding invalid_of
    invalid_within = record { p2 = k.p2; p3 = k.p3; p4 = omega arith; p3b = k.p3b }

    pub decayed_within : (floor time : ℕ) → TopicParamsIn t → CountersWithin t (decayed_of t floor time r)
    unfolding decayed_of
    decayed_within floor time h =
        record {
          p2 = omega (arith, faded_less floor t.decay2 r.p2 (omega arith));
          p3 = omega (arith, faded_less floor t.decay3 r.p3 (omega arith));
          p4 = omega (arith, faded_less floor t.decay4 r.p4 (omega arith));
          p3b = omega (arith, faded_less (floor * 1000) t.decay3b r.p3b (omega arith));
        }

  -- a member's graft time and mesh time together are the time of the decay
  pub decayed_mesh :
      (floor time : ℕ) →
      r.graft + r.mesh ≤ time →
      (decayed_of t floor time r).graft + (decayed_of t floor time r).mesh ≤ time
  unfolding decayed_of mesh_of
  decayed_mesh floor time h =
      cond_case
      (λ (n : ℕ). r.graft + n ≤ time)
      (is_member r)
      (time - r.graft)
      r.mesh
      (λ _. omega arith)
      (λ _. h)
