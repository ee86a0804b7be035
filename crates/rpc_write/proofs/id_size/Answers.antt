-- `rpc_write::id_size` meets its contract. Assumes nothing.
use Rattle.index.proofs.Kit.{arith}
use Rattle.message_ids.proofs.TableLaws.{table_parts}
use Rattle.rpc_write.proofs.WriteLaws.{id_row, id_size_is, no_id}
use Rattle.rpc_write.proofs.id_size.Goals as goal

pub number_row-requires : goal.number_row-requires
number_row-requires c = (table_parts _ _ _ c.args.table.now.accepted).1

pub overflow_mul-k : goal.overflow_mul-k
overflow_mul-k c =
    let q = id_row _ _ _ c.args.table.now.accepted _ _
    c.number_row.ensures _ c.in-Some.is in
    let l = q.low in
    let g = q.long in
    omega arith

pub bounds-table-k : goal.bounds-table-k
bounds-table-k c =
    let q = id_row _ _ _ c.args.table.now.accepted _ _
    c.number_row.ensures _ c.in-Some.is in
    let l = q.low in
    let g = q.long in
    omega arith

pub returns-in-Some : goal.returns-in-Some
returns-in-Some c = id_size_is _ _ _ c.args.table.now.accepted _ _
    c.number_row.ensures _ c.in-Some.is _ c.from.ensures

pub returns-in-None : goal.returns-in-None
returns-in-None c = no_id _ _ _ c.args.table.now.accepted _ _ c.number_row.ensures
    c.in-None.is
