-- `rpc_write::put_notices` meets its contract. Assumes nothing.
use Rattle.index.proofs.Kit.{arith}
use Rattle.rpc_write.proofs.WriteLaws.{inner_none, inner_some}
use Rattle.rpc_write.proofs.put_notices.Goals as goal

pub kind_size-size-requires : goal.kind_size-size-requires
kind_size-size-requires c = (c.requires.0, omega arith)

pub returns-then-size-eq0 : goal.returns-then-size-eq0
returns-then-size-eq0 c = inner_none _ _ 5 _ 5760 _ c.kind_size-size.ensures.0 c.if-size-eq0.true

pub put_head-a-requires : goal.put_head-a-requires
put_head-a-requires c = (
  omega arith,
  (
    omega (arith, c.kind_size-size.ensures.1),
    omega
        (arith, c.requires.1),
  ),
)

pub put_kind-requires : goal.put_kind-requires
put_kind-requires c = let p = c.requires in
    (p.0, (omega arith, omega (arith, p.1, c.put_head-a.ensures.1)))

pub returns : goal.returns
returns c = inner_some _ _ 5 _ 5760 _ _ _ _ _ c.kind_size-size.ensures.0 c.if-size-eq0.false
    c.put_head-a.ensures
    c.put_kind.ensures
