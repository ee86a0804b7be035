-- `rpc_write::notices_size` meets its contract. Assumes nothing.
use Rattle.index.proofs.Kit.{arith}
use Rattle.rpc_write.proofs.WriteLaws.{inner_empty, inner_length}
use Rattle.rpc_write.proofs.notices_size.Goals as goal

pub kind_size-size-requires : goal.kind_size-size-requires
kind_size-size-requires c = (c.requires, omega arith)

pub returns-then-size-eq0 : goal.returns-then-size-eq0
returns-then-size-eq0 c = (inner_empty 5 _ _ c.kind_size-size.ensures.0 c.if-size-eq0.true, omega arith)

pub part_size-requires : goal.part_size-requires
part_size-requires c = (omega arith, omega (arith, c.kind_size-size.ensures.1))

pub returns : goal.returns
returns c = (
  inner_length 5 _ _ _ c.kind_size-size.ensures.0 c.if-size-eq0.false c.part_size.ensures.0,
  omega (arith, c.kind_size-size.ensures.1, c.part_size.ensures.1),
)
