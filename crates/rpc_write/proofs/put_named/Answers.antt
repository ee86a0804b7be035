-- `rpc_write::put_named` meets its contract. Assumes nothing.
use Rattle.index.proofs.Kit.{arith, ◌∙◌}
use Rattle.rpc_write.proofs.WriteLaws.{part_stored, name_length}
use Rattle.rpc_write.proofs.put_named.Goals as goal

pub returns : goal.returns
returns c = let z = c.name_size.ensures in (
  part_stored _ _ _ _ _ _ _ _ _ (z.0 ∙ name_length _ _)
      c.put_head-a.ensures.0 c.put_name.ensures.0,
  omega
      (arith, c.put_head-a.ensures.1, c.put_name.ensures.1),
)
