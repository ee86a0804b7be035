-- `rpc_write::entry_size` meets its contract. Assumes nothing.
use Rattle.rpc_write.proofs.WriteLaws.{entry_id, entry_named}
use Rattle.rpc_write.proofs.entry_size.Goals as goal

pub returns-then-e-eq-IDONTWANT : goal.returns-then-e-eq-IDONTWANT
returns-then-e-eq-IDONTWANT c = entry_id _ _ _ _ c.if-e-eq-IDONTWANT.true _ c.id_size.ensures

pub named_size-requires : goal.named_size-requires
named_size-requires c = c.requires c.if-e-eq-IDONTWANT.false

pub returns : goal.returns
returns c = entry_named _ _ _ _ c.if-e-eq-IDONTWANT.false _ c.named_size.ensures
