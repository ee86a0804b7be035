-- `save_load::row::ends_from`: below t the ends are those of the row. Assumes nothing.
use Prim.Native.Nat.{◌+◌, ◌*◌}
use lib.ListN.{get_or}
use Rattle.index.proofs.Lists.{Built}
use Rattle.saves.specs.Load.{end_from}
use Rattle.save_load.proofs.row.ends_from.Given as goal

abbrev pub invariant-loop-t : goal.invariant-loop-t
invariant-loop-t l = Built 0 (λ k. end_from l.clock (get_or l.row (8 + k * 5) 0)) 8 l.t l.ends
