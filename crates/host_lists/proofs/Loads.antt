-- What a 0 of a load says: none of 2, 9 and 10 was answered, so the parameters are accepted and a router was made.
-- Assumes nothing.
use Rattle.std.proofs.Common.{Option, Some, None}
use Rattle.index.proofs.Kit.{ℕ, arith, ◌≡◌, refl}
use mathlib.Core.Bool.{Bool, true, false, cond}
use mathlib.Core.List.{List}
use Rattle.records.specs.Records.{State}
use Rattle.params.specs.declared.Params.{Params}
use Rattle.params.specs.Check.{first_broken}
use Rattle.saves.specs.Load.{Loading, loaded, out_of_range, broken, bad, sheeted, load_of}
use Rattle.host_saves.specs.Saving.{load_code}

pub which : (o : Loading) → 0 ≡ load_code o → (st : State) × (o ≡ loaded st)
which (loaded st) e = (st, refl)
which out_of_range e = absurd (omega (arith, e))
which (broken i) e = absurd (omega (arith, e))
which (bad i) e = absurd (omega (arith, e))

module _ (all : Params) (clock : ℕ) (bytes : List ℕ) where
  go : (b : Bool) (f : Option ℕ) → 0 ≡ load_code (cond b (sheeted all clock bytes f) out_of_range) → (b ≡ true) × (f ≡ None)
  go true (Some i) e = absurd (omega (arith, e))
  go true None e = (refl, refl)
  go false f e = absurd (omega (arith, e))

  pub load_passes : (fine : Bool) → 0 ≡ load_code (load_of fine all clock bytes) → (fine ≡ true) × (first_broken all ≡ None)
  unfolding load_of
  load_passes fine e = go fine (first_broken all) e
