-- `rpc_write::put_message` meets its contract. Assumes nothing.
use Rattle.index.proofs.Kit.{arith}
use Rattle.rpc_write.proofs.WriteLaws.{message_stored}
use Rattle.rpc_write.proofs.put_message.Goals as goal

pub put_kind-a-requires : goal.put_kind-a-requires
put_kind-a-requires c = (c.requires.0, (omega arith, omega arith))

pub put_control_field-requires : goal.put_control_field-requires
put_control_field-requires c = let p = c.requires in
    (p.0, (p.1, omega (arith, c.put_kind-a.ensures.1)))

pub returns : goal.returns
returns c = message_stored _ _ _ _ _ _ _ _ c.put_kind-a.ensures
    c.put_control_field.ensures
