-- `host_saves::fill` meets its contract. Assumes nothing.
use Rattle.index.proofs.Kit.{arith}
use Rattle.host_saves.proofs.SavingLaws.{load_fits, hosts_load}
use Rattle.host_saves.proofs.fill.Goals as goal

pub packed-requires : goal.packed-requires
packed-requires c = (omega arith, omega arith)

pub packed-requires-in-Err-OutOfRange : goal.packed-requires-in-Err-OutOfRange
packed-requires-in-Err-OutOfRange c = (omega arith, omega arith)

pub packed-requires-in-Err-Broken : goal.packed-requires-in-Err-Broken
packed-requires-in-Err-Broken c = (omega arith, load_fits _ _ _ _ _ _ _ c.load.ensures (rw c.in-Err-Broken.field-0-is at c.in-Err-Broken.is))

pub packed-requires-in-Err-Malformed : goal.packed-requires-in-Err-Malformed
packed-requires-in-Err-Malformed c = (omega arith, load_fits _ _ _ _ _ _ _ c.load.ensures (rw c.in-Err-Malformed.field-0-is at c.in-Err-Malformed.is))

pub returns-in-Ok : goal.returns-in-Ok
returns-in-Ok c = hosts_load _ _ _ _ _ _ _ c.load.ensures c.in-Ok.is _ c.packed.ensures

pub returns-in-Err-OutOfRange : goal.returns-in-Err-OutOfRange
returns-in-Err-OutOfRange c =
    hosts_load _ _ _ _ _ _ _ c.load.ensures (rw c.in-Err-OutOfRange.field-0-is at c.in-Err-OutOfRange.is) _ c.packed-in-Err-OutOfRange.ensures

pub returns-in-Err-Broken : goal.returns-in-Err-Broken
returns-in-Err-Broken c = hosts_load _ _ _ _ _ _ _ c.load.ensures (rw c.in-Err-Broken.field-0-is at c.in-Err-Broken.is) _
    c.packed-in-Err-Broken.ensures

pub returns-in-Err-Malformed : goal.returns-in-Err-Malformed
returns-in-Err-Malformed c = hosts_load _ _ _ _ _ _ _ c.load.ensures (rw c.in-Err-Malformed.field-0-is at c.in-Err-Malformed.is) _
    c.packed-in-Err-Malformed.ensures
