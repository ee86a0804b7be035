-- `host_gossip::make` meets its contract. Assumes nothing.
use Rattle.index.proofs.Kit.{arith}
use Rattle.host_gossip.proofs.RouterLaws.{making_fits, hosts_made}
use Rattle.host_gossip.proofs.make.Goals as goal

pub packed-requires : goal.packed-requires
packed-requires c = (omega arith, omega arith)

pub packed-requires-in-Err-OutOfRange : goal.packed-requires-in-Err-OutOfRange
packed-requires-in-Err-OutOfRange c = (omega arith, omega arith)

pub packed-requires-in-Err-Broken : goal.packed-requires-in-Err-Broken
packed-requires-in-Err-Broken c = (omega arith, making_fits _ _ _ _ _ _ _ _ c.fresh.ensures (rw c.in-Err-Broken.field-0-is at c.in-Err-Broken.is))

pub returns-in-Ok : goal.returns-in-Ok
returns-in-Ok c = hosts_made _ _ _ _ _ _ _ _ c.fresh.ensures c.in-Ok.is _ c.packed.ensures

pub returns-in-Err-OutOfRange : goal.returns-in-Err-OutOfRange
returns-in-Err-OutOfRange c =
    hosts_made _ _ _ _ _ _ _ _ c.fresh.ensures (rw c.in-Err-OutOfRange.field-0-is at c.in-Err-OutOfRange.is) _ c.packed-in-Err-OutOfRange.ensures

pub returns-in-Err-Broken : goal.returns-in-Err-Broken
returns-in-Err-Broken c = hosts_made _ _ _ _ _ _ _ _ c.fresh.ensures (rw c.in-Err-Broken.field-0-is at c.in-Err-Broken.is) _
    c.packed-in-Err-Broken.ensures
