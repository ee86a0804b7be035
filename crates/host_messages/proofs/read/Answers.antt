-- `host_messages::read` meets its contract. Assumes nothing.
use Rattle.index.proofs.Kit.{arith}
use Rattle.host_messages.proofs.MessageLaws.{message_fits, hosts_message}
use Rattle.host_messages.proofs.read.Goals as goal

pub packed-requires : goal.packed-requires
packed-requires c = (omega arith, message_fits _ _ _ _ _ _ _ c.read.ensures c.in-Ok.is)

pub packed-requires-in-Err-Malformed : goal.packed-requires-in-Err-Malformed
packed-requires-in-Err-Malformed c =
    let e = c.read.ensures in
    let p = (rw c.in-Err-Malformed.field-0-is at c.in-Err-Malformed.is) in
    (omega arith, message_fits _ _ _ _ _ _ _ e p)

pub returns-in-Ok : goal.returns-in-Ok
returns-in-Ok c =
    let e = c.read.ensures in
    let n = c.in-Ok.is in
    hosts_message _ _ _ _ _ _ _ e n _ c.packed.ensures

pub returns-in-Err-ListShort : goal.returns-in-Err-ListShort
returns-in-Err-ListShort c =
    let e = c.read.ensures in
    let u = (rw c.in-Err-ListShort.field-0-is at c.in-Err-ListShort.is) in
    hosts_message _ _ _ _ _ _ _ e u _ c.packed-in-Err-ListShort.ensures

pub returns-in-Err-NotTable : goal.returns-in-Err-NotTable
returns-in-Err-NotTable c =
    let e = c.read.ensures in
    let u = (rw c.in-Err-NotTable.field-0-is at c.in-Err-NotTable.is) in
    hosts_message _ _ _ _ _ _ _ e u _ c.packed-in-Err-NotTable.ensures

pub returns-in-Err-Malformed : goal.returns-in-Err-Malformed
returns-in-Err-Malformed c =
    let e = c.read.ensures in
    let p = (rw c.in-Err-Malformed.field-0-is at c.in-Err-Malformed.is) in
    hosts_message _ _ _ _ _ _ _ e p _ c.packed-in-Err-Malformed.ensures
