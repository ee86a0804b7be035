-- `rpc_write::notice_ok` meets its contract. Assumes nothing.
use Rattle.message_ids.proofs.TableLaws.{table_parts}
use Rattle.rpc_write.proofs.WriteLaws.{notice_other, notice_topic, notice_is}
use Rattle.rpc_write.proofs.notice_ok.Goals as goal

pub returns-then-e-ne-IDONTWANT : goal.returns-then-e-ne-IDONTWANT
returns-then-e-ne-IDONTWANT c = notice_other _ _ _ _ c.if-e-ne-IDONTWANT.true

pub returns-then-e-ne0 : goal.returns-then-e-ne0
returns-then-e-ne0 c = notice_topic _ _ _ _ c.if-e-ne-IDONTWANT.false c.if-e-ne0.true

pub number_row-requires : goal.number_row-requires
number_row-requires c = (table_parts _ _ _ c.args.table.now.accepted).1

pub returns : goal.returns
returns c =
    let e = c.if-e-ne-IDONTWANT.false in
    let f = c.if-e-ne0.false in
    notice_is _ _ _ _ e f _ c.number_row.ensures _ c.is_some.ensures
