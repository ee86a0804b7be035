-- `rpc_write::put_control_field` meets its contract. Assumes nothing.
use Rattle.index.proofs.Kit.{arith}
use Rattle.rpc_write.proofs.WriteLaws.{inner_none, inner_some}
use Rattle.rpc_write.proofs.put_control_field.Goals as goal

pub returns-then-size-eq0 : goal.returns-then-size-eq0
returns-then-size-eq0 c = inner_none _ _ 3 _ 17284 _ c.requires.1.0.0 c.if-size-eq0.true

pub put_head-a-requires : goal.put_head-a-requires
put_head-a-requires c = let p = c.requires.1 in
    (omega arith, (omega (arith, p.0.1), omega (arith, p.1)))

pub put_control-requires : goal.put_control-requires
put_control-requires c = let p = c.requires in
    (p.0, omega (arith, p.1.1, c.put_head-a.ensures.1))

pub returns : goal.returns
returns c = inner_some _ _ 3 _ 17284 _ _ _ _ _ c.requires.1.0.0 c.if-size-eq0.false
    c.put_head-a.ensures
    c.put_control.ensures
