-- `save_load::passes::skim_numbers`: what is left to read ends where the whole does. Assumes nothing.
use Prim.Native.Nat.{◌-◌}
use mathlib.Core.Path.{◌≡◌}
use Rattle.saves.specs.Load.{parse_from}
use Rattle.save_load.specs.Skim.{skim_of}
use Rattle.save_load.proofs.passes.skim_numbers.Given as goal

abbrev pub invariant-loop-i : goal.invariant-loop-i
invariant-loop-i l = skim_of (parse_from (l.n - l._i) l.s l.place) ≡ skim_of (parse_from l.n l.s l.at)
