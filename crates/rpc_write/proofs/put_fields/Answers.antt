-- `rpc_write::put_fields` meets its contract. Assumes nothing.
use Rattle.rpc_write.proofs.WriteLaws.{named_stored}
use Rattle.rpc_write.proofs.put_fields.Goals as goal

pub returns : goal.returns
returns c = named_stored _ _ _ _ _ _ _ _ _ _ _ _ _ _ _
    c.early_value.ensures.0
    c.name_number.ensures.0
    c.late_value.ensures.0
    c.put_value-a.ensures
    c.put_named-b.ensures
    c.put_value.ensures
