-- `rpc_write::put_one` meets its contract. Assumes nothing.
use Rattle.index.proofs.Kit.{arith}
use Rattle.rpc_write.proofs.WriteLaws.{one_other, one_stored}
use Rattle.rpc_write.proofs.put_one.Goals as goal

pub returns-then-e-kind : goal.returns-then-e-kind
returns-then-e-kind c = one_other _ _ _ _ _ _ _ _ c.if-e-kind.true

pub entry_size-requires : goal.entry_size-requires
entry_size-requires c = c.requires.0

pub put_head-a-requires : goal.put_head-a-requires
put_head-a-requires c = let q = c.requires.1 in
    (q.0, (omega (arith, c.entry_size.ensures.1), omega (arith, q.1)))

pub put_entry-requires : goal.put_entry-requires
put_entry-requires c = let q = c.requires in
    (q.0, omega (arith, q.1.1, c.put_head-a.ensures.1))

pub returns : goal.returns
returns c = one_stored _ _ _ _ _ _ _ _ _ _ _ _ _ c.if-e-kind.false
    c.entry_size.ensures
    c.put_head-a.ensures
    c.put_entry.ensures
