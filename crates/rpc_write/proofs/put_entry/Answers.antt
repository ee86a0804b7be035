-- `rpc_write::put_entry` meets its contract. Assumes nothing.
use Rattle.index.proofs.Kit.{arith}
use Rattle.rpc_write.proofs.WriteLaws.{entry_id_stored, entry_named_stored}
use Rattle.rpc_write.proofs.put_entry.Goals as goal

pub put_id-requires : goal.put_id-requires
put_id-requires c = omega (arith, c.requires.1)

pub returns-then-e-eq-IDONTWANT : goal.returns-then-e-eq-IDONTWANT
returns-then-e-eq-IDONTWANT c = entry_id_stored _ _ _ _ c.if-e-eq-IDONTWANT.true _ _ _ _ c.put_id.ensures

pub put_fields-requires : goal.put_fields-requires
put_fields-requires c = (
  c.requires.0 c.if-e-eq-IDONTWANT.false,
  c.requires.1,
)

pub returns : goal.returns
returns c = entry_named_stored _ _ _ _ c.if-e-eq-IDONTWANT.false _ _ _ _ c.put_fields.ensures
