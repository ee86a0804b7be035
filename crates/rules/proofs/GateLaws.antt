-- The tests 12, 2, 8, 1: what each end of the gate says, and what is known behind it.
-- Assumes nothing.
use Rattle.std.proofs.Common.{Result, Ok, Err}
use Prim.Native.Nat.{ℕ, ◌≤◌, ◌<◌}
use mathlib.Core.Path.{◌≡◌}
use mathlib.Core.Bool.{Bool, true, false}
use native.Mathlib.Omega.{arith}
use borrow.Author.Tests.{le-leb, lt-leb, leb-true}
use lib.Dec.{leb}
use Rattle.index.proofs.Flags.{by_test}
use Rattle.records.specs.Records.{State}
use Rattle.validity.specs.Valid.{valid}
use Rattle.rules.specs.declared.Answer.{Answer}
use Rattle.rules.specs.declared.Answer.TheVariants.{Early, OutOfRange, ListShort, NotRouter}
use Rattle.rules.specs.Step.{gate_of, action_room}

-- what holds behind the gate
pub record Passed (st : State) (fine : Bool) (room time : ℕ) : Type 0 where
  pub router : valid st ≡ true
  pub ranges : fine ≡ true
  pub size : action_room ≤ room
  pub clock : st.clock ≤ time

module _ (st : State) (fine : Bool) (room time : ℕ) where
  pub gate_12 : valid st ≡ false → Err NotRouter ≡ gate_of st fine room time
  unfolding gate_of
  gate_12 v = rw v

  pub gate_2 : valid st ≡ true → fine ≡ false → Err OutOfRange ≡ gate_of st fine room time
  unfolding gate_of
  gate_2 v f = rw (v, f)

  pub gate_8 : valid st ≡ true → fine ≡ true → room < action_room → Err ListShort ≡ gate_of st fine room time
  unfolding gate_of
  gate_8 v f l = rw (v, f, lt-leb action_room room l)

  -- `k` is the clock as it was read
  pub gate_1 :
      (k : ℕ) →
      valid st ≡ true →
      fine ≡ true →
      action_room ≤ room →
      k ≡ st.clock →
      time < k →
      Err Early ≡ gate_of st fine room time
  unfolding gate_of
  gate_1 k v f l e t = rw (v, f, le-leb action_room room l, lt-leb st.clock time (omega arith))

  pub gate_0 :
      (k : ℕ) →
      valid st ≡ true →
      fine ≡ true →
      action_room ≤ room →
      k ≡ st.clock →
      k ≤ time →
      (Ok tt) ≡ gate_of st fine room time
  unfolding gate_of
  gate_0 k v f l e t = rw (v, f, le-leb action_room room l, le-leb st.clock time (omega arith))

  no_pass : {A : Type 0} (a : Answer) → ◌≡◌ {A = Result (Unit {0}) Answer} (Err a) (Ok tt) → A
  no_pass a e = let z : ◌≡◌ {A = ℕ} 0 1 = cc in absurd (omega arith)

  pub gate_passed : gate_of st fine room time ≡ Ok tt → Passed st fine room time
  unfolding gate_of
  gate_passed e =
      by_test (Passed st fine room time) (valid st)
      (λ v. by_test (Passed st fine room time) fine
      (λ f. by_test (Passed st fine room time) (leb action_room room)
      (λ l. by_test (Passed st fine room time) (leb st.clock time)
      (λ t. record { router = v; ranges = f; size = leb-true action_room room l; clock = leb-true st.clock time t })
      (λ t. no_pass Early (rw (v, f, l, t) at e)))
      (λ l. no_pass ListShort (rw (v, f, l) at e)))
      (λ f. no_pass OutOfRange (rw (v, f) at e)))
      (λ v. no_pass NotRouter (rw v at e))

-- in the form in which the returns of `admit` ask them
pub ruleset gate-cases = (gate_12, gate_2, gate_8, gate_1, gate_0)
