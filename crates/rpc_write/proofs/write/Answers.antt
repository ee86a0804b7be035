-- `rpc_write::write`: 2 of the table or the list, 13 by the sizes added up first, else the bytes one part after the other. Assumes nothing.
use mathlib.Core.Path.{sym, ◌∙◌}
use Rattle.rpc_write.proofs.WriteLaws.{writes_no_table, writes_not, writes_short, writes_done}
use Rattle.rpc_write.proofs.write.Goals as goal

pub returns-then-not-table_ok : goal.returns-then-not-table_ok
returns-then-not-table_ok c = writes_no_table _ _ _ _ _ (sym c.table_ok.ensures ∙ c.if-not-table_ok.true)

pub invariant_of-table : goal.invariant_of-table
invariant_of-table c = record { accepted = sym c.table_ok.ensures ∙ c.if-not-table_ok.false }

pub returns-then-not-list_ok : goal.returns-then-not-list_ok
returns-then-not-list_ok c = writes_not _ _ _ _ _ (sym c.table_ok.ensures ∙ c.if-not-table_ok.false)
    (sym c.list_ok.ensures ∙ c.if-not-list_ok.true)

pub control_size-control-requires : goal.control_size-control-requires
control_size-control-requires c = sym c.list_ok.ensures ∙ c.if-not-list_ok.false

pub message_size-requires : goal.message_size-requires
message_size-requires c = (sym c.list_ok.ensures ∙ c.if-not-list_ok.false, c.control_size-control.ensures)

pub returns-then-buf-message_size : goal.returns-then-buf-message_size
returns-then-buf-message_size c =
    writes_short _ _ _ _ _ (sym c.table_ok.ensures ∙ c.if-not-table_ok.false) (sym c.list_ok.ensures ∙ c.if-not-list_ok.false)
    (rw c.message_size.ensures at c.if-buf-message_size.true)

pub put_message-requires : goal.put_message-requires
put_message-requires c = (sym c.list_ok.ensures ∙ c.if-not-list_ok.false, c.control_size-control.ensures)

pub returns : goal.returns
returns c = writes_done _ _ _ _ _ (sym c.table_ok.ensures ∙ c.if-not-table_ok.false)
    (sym c.list_ok.ensures ∙ c.if-not-list_ok.false) _ _
    (rw c.message_size.ensures at c.if-buf-message_size.false)
    c.put_message.ensures
