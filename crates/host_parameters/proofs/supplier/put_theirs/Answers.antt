-- `host_parameters::put_theirs` meets its contract. Assumes nothing.
use Rattle.index.proofs.Kit.{arith}
use Rattle.host_parameters.proofs.SupplierLaws.{export_fits, hosts_export}
use Rattle.host_parameters.proofs.supplier.put_theirs.Goals as goal

pub packed-requires : goal.packed-requires
packed-requires c = (omega arith, export_fits _ _ _ _ _ c.export.ensures c.in-Ok.is)

pub packed-requires-in-Err-Short : goal.packed-requires-in-Err-Short
packed-requires-in-Err-Short c = (omega arith, omega arith)

pub packed-requires-in-Err-Outside : goal.packed-requires-in-Err-Outside
packed-requires-in-Err-Outside c = (omega arith, export_fits _ _ _ _ _ c.export.ensures (rw c.in-Err-Outside.field-0-is at c.in-Err-Outside.is))

pub returns-in-Ok : goal.returns-in-Ok
returns-in-Ok c = hosts_export _ _ _ _ _ c.export.ensures c.in-Ok.is _
    c.packed.ensures

pub returns-in-Err-Short : goal.returns-in-Err-Short
returns-in-Err-Short c = hosts_export _ _ _ _ _ c.export.ensures (rw c.in-Err-Short.field-0-is at c.in-Err-Short.is) _
    c.packed-in-Err-Short.ensures

pub returns-in-Err-Outside : goal.returns-in-Err-Outside
returns-in-Err-Outside c = hosts_export _ _ _ _ _ c.export.ensures (rw c.in-Err-Outside.field-0-is at c.in-Err-Outside.is) _
    c.packed-in-Err-Outside.ensures
