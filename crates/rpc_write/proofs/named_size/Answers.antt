-- `rpc_write::named_size` meets its contract. Assumes nothing.
use Rattle.rpc_write.proofs.WriteLaws.{named_length}
use Rattle.rpc_write.proofs.named_size.Goals as goal

pub returns : goal.returns
returns c = named_length _ _ _ _ _ _ _ _ _ _ _ c.early_value.ensures
    c.name_number.ensures.0 c.late_value.ensures
    c.name_size.ensures c.value_size-a.ensures
    c.part_size-b.ensures c.value_size-c.ensures
