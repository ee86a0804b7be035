-- `host_gossip::loads::load` meets its contract. Assumes nothing.
use mathlib.Core.Path.{ap}
use Rattle.params.specs.Editions.{known}
use Rattle.index.proofs.Kit.{arith}
use Rattle.host_gossip.proofs.RouterLaws.{load_known, load_unknown}
use Rattle.host_gossip.proofs.loads.load.Goals as goal

pub packed-requires : goal.packed-requires
packed-requires c = (omega arith, omega arith)

pub returns-in_default : goal.returns-in_default
returns-in_default c = load_unknown _ _ c.try_from.ensures _ _ _ _ _ _ _ (ap known c.in_default.is)
    c.packed.ensures

pub returns : goal.returns
returns c = load_known _ _ c.try_from.ensures _ _ _ _ _ _ _ _ _ _
    (ap known c.in-Ok.is) c.fill.ensures
