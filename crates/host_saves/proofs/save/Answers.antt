-- `host_saves::save`: each answer is packed into one number, and what a save comes to fits beside it, since no save is that long.
use Rattle.index.proofs.Kit.{arith, refl}
use Rattle.host_saves.proofs.SavingLaws.{save_fits, hosts_save}
use Rattle.host_saves.proofs.save.Goals as goal

pub packed-requires : goal.packed-requires
packed-requires c = (
  omega arith,
  save_fits _ _ _ _ _ _ c.save.ensures c.in-Ok.is _ refl,
)

pub packed-requires-in-Err-Early : goal.packed-requires-in-Err-Early
packed-requires-in-Err-Early c = (omega arith, omega arith)

pub packed-requires-in-Err-OutOfRange : goal.packed-requires-in-Err-OutOfRange
packed-requires-in-Err-OutOfRange c = (omega arith, omega arith)

pub packed-requires-in-Err-NotRouter : goal.packed-requires-in-Err-NotRouter
packed-requires-in-Err-NotRouter c = (omega arith, omega arith)

pub packed-requires-in-Err-Short : goal.packed-requires-in-Err-Short
packed-requires-in-Err-Short c = (omega arith, omega arith)

pub returns-in-Ok : goal.returns-in-Ok
returns-in-Ok c = hosts_save _ _ _ _ _ _ c.save.ensures c.in-Ok.is _
    c.packed.ensures

pub returns-in-Err-Early : goal.returns-in-Err-Early
returns-in-Err-Early c = hosts_save _ _ _ _ _ _ c.save.ensures (rw c.in-Err-Early.field-0-is at c.in-Err-Early.is) _
    c.packed-in-Err-Early.ensures

pub returns-in-Err-OutOfRange : goal.returns-in-Err-OutOfRange
returns-in-Err-OutOfRange c = hosts_save _ _ _ _ _ _ c.save.ensures (rw c.in-Err-OutOfRange.field-0-is at c.in-Err-OutOfRange.is) _
    c.packed-in-Err-OutOfRange.ensures

pub returns-in-Err-NotRouter : goal.returns-in-Err-NotRouter
returns-in-Err-NotRouter c = hosts_save _ _ _ _ _ _ c.save.ensures (rw c.in-Err-NotRouter.field-0-is at c.in-Err-NotRouter.is) _
    c.packed-in-Err-NotRouter.ensures

pub returns-in-Err-Short : goal.returns-in-Err-Short
returns-in-Err-Short c = hosts_save _ _ _ _ _ _ c.save.ensures (rw c.in-Err-Short.field-0-is at c.in-Err-Short.is) _
    c.packed-in-Err-Short.ensures
