-- `host_parameters::put` meets its contract. Assumes nothing.
use Rattle.index.proofs.Kit.{arith, rules}
use Rattle.host_parameters.proofs.ParameterLaws.{write_fits, hosts_write}
use Rattle.host_parameters.proofs.put.Goals as goal

pub packed-requires : goal.packed-requires
packed-requires c = (
  omega arith,
  write_fits _ _ _ _ _ c.write.ensures c.in-Ok.is (search rules),
)

pub packed-requires-in-Err-Short : goal.packed-requires-in-Err-Short
packed-requires-in-Err-Short c = (omega arith, omega arith)

pub packed-requires-in-Err-Outside : goal.packed-requires-in-Err-Outside
packed-requires-in-Err-Outside c = (
  omega arith,
  write_fits _ _ _ _ _ c.write.ensures (rw c.in-Err-Outside.field-0-is at c.in-Err-Outside.is) (search rules),
)

pub returns-in-Ok : goal.returns-in-Ok
returns-in-Ok c = hosts_write _ _ _ _ _ c.write.ensures c.in-Ok.is _
    c.packed.ensures

pub returns-in-Err-Short : goal.returns-in-Err-Short
returns-in-Err-Short c = hosts_write _ _ _ _ _ c.write.ensures (rw c.in-Err-Short.field-0-is at c.in-Err-Short.is) _
    c.packed-in-Err-Short.ensures

pub returns-in-Err-Outside : goal.returns-in-Err-Outside
returns-in-Err-Outside c = hosts_write _ _ _ _ _ c.write.ensures (rw c.in-Err-Outside.field-0-is at c.in-Err-Outside.is) _
    c.packed-in-Err-Outside.ensures
