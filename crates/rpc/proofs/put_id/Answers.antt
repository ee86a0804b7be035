-- `rpc::put_id` meets its contract. Assumes nothing.
use Rattle.index.proofs.Kit.{arith}
use Rattle.message_ids.proofs.TableLaws.{table_parts}
use Rattle.rpc.proofs.ListLaws.{id_puts}
use Rattle.rpc.proofs.put_id.Goals as goal

pub row_of-row-requires : goal.row_of-row-requires
row_of-row-requires c = ((table_parts _ _ _ c.args.table.now.accepted).0, omega arith)

pub returns : goal.returns
returns c =
    let p = c.args.p in
    let r = c.row_of-row.ensures in
    let t = c.id_topic.ensures in
    let v = c.id_number.ensures in
    id_puts _ _ _ p _ _ _ _ _ _ r t v c.put_entry.ensures
