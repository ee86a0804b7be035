-- `forms::test::is_router`: the clock, then the rest. Assumes nothing.
use Prim.Native.Nat.{ℕ, ◌<◌, ◌≤◌}
use mathlib.Core.Path.{subst}
use Rattle.validity.specs.Valid.{max_time}
use Rattle.validity.proofs.OrderLaws.{clock_fails, clock_passes}
use Rattle.forms.proofs.test.is_router.Goals as goal

pub returns-then-load_clock-gt-MAX_TIME : goal.returns-then-load_clock-gt-MAX_TIME
returns-then-load_clock-gt-MAX_TIME c = clock_fails _ (subst (λ (n : ℕ). max_time < n) c.load_clock.ensures c.if-load_clock-gt-MAX_TIME.true)

pub slots_ok-slots-requires : goal.slots_ok-slots-requires
slots_ok-slots-requires c = (
  c.requires,
  subst (λ (n : ℕ). n ≤ max_time) c.load_clock.ensures c.if-load_clock-gt-MAX_TIME.false,
)

pub returns : goal.returns
returns c =
    clock_passes _ (subst (λ (n : ℕ). n ≤ max_time) c.load_clock.ensures c.if-load_clock-gt-MAX_TIME.false) _ _ _ _
    c.params_ok-params.ensures
    c.joined_ok-joined.ensures
    c.slots_ok-slots.ensures
    c.ids_distinct-ids.ensures
