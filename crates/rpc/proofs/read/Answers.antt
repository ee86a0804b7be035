-- `rpc::read`: 8, then 2 of the table, then the length; what is read is what the two passes find and write. Assumes nothing.
use mathlib.Core.Path.{sym, ◌∙◌}
use Rattle.rpc.proofs.ReadLaws.{reads_short, reads_table, reads_long, count_few, reads_done, refused}
use Rattle.rpc.proofs.read.Goals as goal

pub returns-then-list-lt-LIST_NUMBERS : goal.returns-then-list-lt-LIST_NUMBERS
returns-then-list-lt-LIST_NUMBERS c = reads_short _ _ _ _ c.if-list-lt-LIST_NUMBERS.true

pub returns-then-not-table_ok : goal.returns-then-not-table_ok
returns-then-not-table_ok c = reads_table _ _ _ _ c.if-list-lt-LIST_NUMBERS.false (sym c.table_ok.ensures ∙ c.if-not-table_ok.true)

pub returns-then-s-gt-MESSAGE_BYTES : goal.returns-then-s-gt-MESSAGE_BYTES
returns-then-s-gt-MESSAGE_BYTES c = reads_long _ _ _ _ c.if-list-lt-LIST_NUMBERS.false (sym c.table_ok.ensures ∙ c.if-not-table_ok.false)
    c.if-s-gt-MESSAGE_BYTES.true

pub returns-in_err-n : goal.returns-in_err-n
returns-in_err-n c =
    let i = c.if-list-lt-LIST_NUMBERS.false in
    let k = sym c.table_ok.ensures ∙ c.if-not-table_ok.false in
    let j = c.if-s-gt-MESSAGE_BYTES.false in
    refused _ _ _ _ i k j _ _ c.check_message.ensures c.in_err-n.was _ c.from_residual.ensures.1

pub invariant_of-table : goal.invariant_of-table
invariant_of-table c = record { accepted = sym c.table_ok.ensures ∙ c.if-not-table_ok.false }

pub invariant_of-t : goal.invariant_of-t
invariant_of-t c = record { eight = c.requires }

pub fill-requires : goal.fill-requires
fill-requires c =
    let j = c.if-s-gt-MESSAGE_BYTES.false in
    (j, count_few _ _ _ j c.check_message.ensures c.in_ok-n.was)

pub returns : goal.returns
returns c =
    let i = c.if-list-lt-LIST_NUMBERS.false in
    let k = sym c.table_ok.ensures ∙ c.if-not-table_ok.false in
    let j = c.if-s-gt-MESSAGE_BYTES.false in
    reads_done _ _ _ _ i k j _ _ _ _ c.check_message.ensures c.in_ok-n.was c.fill.ensures
