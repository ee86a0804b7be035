-- `rpc_write::put_control` meets its contract. Assumes nothing.
use Rattle.index.proofs.Kit.{arith}
use Rattle.rpc_write.proofs.WriteLaws.{control_stored}
use Rattle.rpc_write.proofs.put_control.Goals as goal

pub put_kind-a-requires : goal.put_kind-a-requires
put_kind-a-requires c = (
  c.requires.0,
  (omega arith, omega (arith, c.requires.1)),
)

pub put_kind-b-requires : goal.put_kind-b-requires
put_kind-b-requires c = (
  c.requires.0,
  (
    omega arith,
    omega (
      arith,
      c.requires.1,
      c.put_kind-a.ensures.1,
    ),
  ),
)

pub put_notices-requires : goal.put_notices-requires
put_notices-requires c = (
  c.requires.0,
  omega (
    arith,
    c.requires.1,
    c.put_kind-a.ensures.1,
    c.put_kind-b.ensures.1,
  ),
)

pub returns : goal.returns
returns c = control_stored _ _ _ _ _ _ _ _ _ _ _ c.put_kind-a.ensures c.put_kind-b.ensures c.put_notices.ensures
