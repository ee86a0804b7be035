-- `rpc_write::put_id`: the row of the number is found, as the list was accepted, and its bytes are those that are written. Assumes nothing.
use Rattle.index.proofs.Kit.{arith}
use Rattle.message_ids.proofs.TableLaws.{table_parts}
use Rattle.rpc_write.proofs.WriteLaws.{id_row, id_stored, no_id_stored}
use Rattle.rpc_write.proofs.put_id.Goals as goal

pub number_row-requires : goal.number_row-requires
number_row-requires c = (table_parts _ _ _ c.args.table.now.accepted).1

pub overflow_mul-row : goal.overflow_mul-row
overflow_mul-row c =
    let q = id_row _ _ _ c.args.table.now.accepted _ _
    c.number_row.ensures _ c.in-Some.is in
    let l = q.low in
    let g = q.long in
    omega arith

pub overflow_add-row : goal.overflow_add-row
overflow_add-row c =
    let q = id_row _ _ _ c.args.table.now.accepted _ _
    c.number_row.ensures _ c.in-Some.is in
    let l = q.low in
    let g = q.long in
    omega arith

pub bounds-table-row : goal.bounds-table-row
bounds-table-row c =
    let q = id_row _ _ _ c.args.table.now.accepted _ _
    c.number_row.ensures _ c.in-Some.is in
    let l = q.low in
    let g = q.long in
    omega arith

pub put_run-requires : goal.put_run-requires
put_run-requires c =
    let q = id_row _ _ _ c.args.table.now.accepted _ _
    c.number_row.ensures _ c.in-Some.is in
    let l = q.low in
    let g = q.long in
    let s = q.short in
    let w = c.from.ensures in (
      omega arith,
      (
        omega arith,
        omega (
          arith,
          c.requires,
        ),
      ),
    )

pub returns-in-Some : goal.returns-in-Some
returns-in-Some c =
    let w = c.from.ensures in
    id_stored _ _ _ c.args.table.now.accepted _ _ c.number_row.ensures _
    c.in-Some.is _ _ _ _ _ w c.put_run.ensures

pub returns-in-None : goal.returns-in-None
returns-in-None c = no_id_stored _ _ _ c.args.table.now.accepted _ _
    c.number_row.ensures _ _ c.in-None.is
