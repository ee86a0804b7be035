-- `host_calls::fresh` meets its contract. Assumes nothing.
use mathlib.Core.Path.{ap}
use Rattle.params.specs.Editions.{known}
use Rattle.index.proofs.Kit.{arith}
use Rattle.host_calls.proofs.HostLaws.{fresh_known, fresh_unknown}
use Rattle.host_calls.proofs.tables.fresh.Goals as goal

pub packed-requires : goal.packed-requires
packed-requires c = (omega arith, omega arith)

pub returns-in_default : goal.returns-in_default
returns-in_default c = fresh_unknown _ _ c.try_from.ensures _ _ _ (ap known c.in_default.is) c.packed.ensures

pub returns : goal.returns
returns c = fresh_known _ _ c.try_from.ensures _ _ _ _ _
    (ap known c.in-Ok.is) c.make.ensures
