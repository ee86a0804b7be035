-- `rpc_write::control_size` meets its contract. Assumes nothing.
use Rattle.index.proofs.Kit.{arith}
use Rattle.rpc_write.proofs.WriteLaws.{control_length}
use Rattle.rpc_write.proofs.LengthLaws.{control_long}
use Rattle.rpc_write.proofs.control_size.Goals as goal

pub kind_size-a-requires : goal.kind_size-a-requires
kind_size-a-requires c = (c.requires, omega arith)

pub kind_size-b-requires : goal.kind_size-b-requires
kind_size-b-requires c = (c.requires, omega arith)

pub overflow_add-result : goal.overflow_add-result
overflow_add-result c = omega (arith, c.kind_size-a.ensures.1, c.kind_size-b.ensures.1)

pub notices_size-requires : goal.notices_size-requires
notices_size-requires c = c.requires

pub overflow_add-result-2 : goal.overflow_add-result-2
overflow_add-result-2 c = omega (arith, c.kind_size-a.ensures.1, c.kind_size-b.ensures.1, c.notices_size.ensures.1)

pub returns : goal.returns
returns c =
    let e = control_length _ _ _ _ _ _ c.kind_size-a.ensures.0 c.kind_size-b.ensures.0
    c.notices_size.ensures.0 in
    (e, control_long _ _ _ _ _ c.args.t.now.table.accepted c.requires e)
