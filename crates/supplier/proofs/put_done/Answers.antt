-- `supplier::put_done` meets its contract. Assumes nothing.
use Rattle.supplier.proofs.TextLaws.{done_stored}
use Rattle.supplier.proofs.put_done.Goals as goal

pub returns : goal.returns
returns c = done_stored c.args.buf.now _ _ _ _
    c.put_byte-end.ensures c.put_byte.ensures
