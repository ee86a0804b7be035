-- `rpc_write::one_size` meets its contract. Assumes nothing.
use Rattle.index.proofs.Kit.{arith}
use Rattle.rpc_write.proofs.WriteLaws.{one_none, one_length}
use Rattle.rpc_write.proofs.one_size.Goals as goal

pub returns-then-e-kind : goal.returns-then-e-kind
returns-then-e-kind c = one_none _ _ _ _ _ _ c.if-e-kind.true

pub entry_size-requires : goal.entry_size-requires
entry_size-requires c = c.requires.0

pub part_size-requires : goal.part_size-requires
part_size-requires c = (c.requires.1, omega (arith, c.entry_size.ensures.1))

pub returns : goal.returns
returns c = one_length _ _ _ _ _ _ _ _ c.if-e-kind.false c.entry_size.ensures c.part_size.ensures
