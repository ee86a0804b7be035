-- `rpc_write::message_size` meets its contract. Assumes nothing.
use Rattle.index.proofs.Kit.{arith}
use Rattle.rpc_write.proofs.WriteLaws.{no_control, with_control}
use Rattle.rpc_write.proofs.message_size.Goals as goal

pub kind_size-a-requires : goal.kind_size-a-requires
kind_size-a-requires c = (c.requires.0, omega arith)

pub returns-then-control-eq0 : goal.returns-then-control-eq0
returns-then-control-eq0 c = no_control _ _ _ _ _ c.requires.1.0 c.kind_size-a.ensures
    c.if-control-eq0.true

pub part_size-requires : goal.part_size-requires
part_size-requires c = (omega arith, omega (arith, c.requires.1.1))

pub overflow_add-result : goal.overflow_add-result
overflow_add-result c = omega (
  arith,
  c.kind_size-a.ensures.1,
  c.part_size.ensures.1,
  c.requires.1.1,
)

pub returns : goal.returns
returns c = with_control _ _ _ _ _ c.requires.1.0
    c.kind_size-a.ensures c.if-control-eq0.false _ c.part_size.ensures
