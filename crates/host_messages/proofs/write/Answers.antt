-- `host_messages::write` meets its contract. Assumes nothing.
use Rattle.index.proofs.Kit.{arith}
use Rattle.host_messages.proofs.WritingLaws.{write_fits, hosts_written}
use Rattle.host_messages.proofs.write.Goals as goal

pub packed-requires : goal.packed-requires
packed-requires c = (
  omega arith,
  write_fits _ _ _ _ _ _ _ _ _ c.write.ensures c.in-Ok.is,
)

pub returns-in-Ok : goal.returns-in-Ok
returns-in-Ok c = hosts_written _ _ _ _ _ _ _ _ _ c.write.ensures
    c.in-Ok.is _ c.packed.ensures

pub returns-in-Err-NotList : goal.returns-in-Err-NotList
returns-in-Err-NotList c = hosts_written _ _ _ _ _ _ _ _ _ c.write.ensures
    (rw c.in-Err-NotList.field-0-is at c.in-Err-NotList.is) _ c.packed-in-Err-NotList.ensures

pub returns-in-Err-Short : goal.returns-in-Err-Short
returns-in-Err-Short c = hosts_written _ _ _ _ _ _ _ _ _ c.write.ensures
    (rw c.in-Err-Short.field-0-is at c.in-Err-Short.is) _ c.packed-in-Err-Short.ensures
