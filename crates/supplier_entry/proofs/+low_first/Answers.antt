-- `supplier_entry::low_first` meets its contract: each byte in front of the number of the rest. Assumes nothing.
use Rattle.index.proofs.Kit.{arith}
use Rattle.supplier_entry.proofs.ByteLaws.{low_end, low_more, low_room}
use Rattle.supplier_entry.proofs.+low_first.Goals as goal

pub returns-then-n-eq0 : goal.returns-then-n-eq0
returns-then-n-eq0 t c = let a = c.args in low_end a.n a.s.now a.at c.if-n-eq0.true

pub low_first-requires : goal.low_first-requires
low_first-requires t c = (omega arith, (omega arith, omega arith))

pub overflow_mul-result : goal.overflow_mul-result
overflow_mul-result t c = let h = low_room c.args.n c.low_first.result (omega arith) (omega arith)
    c.low_first.ensures.1 in omega arith

pub overflow_add-result : goal.overflow_add-result
overflow_add-result t c = let h = low_room c.args.n c.low_first.result (omega arith) (omega arith)
    c.low_first.ensures.1 in omega arith

pub returns : goal.returns
returns t c = let a = c.args in
    low_more a.n a.s.now a.at c.wide.result c.low_first.result (omega arith) (omega arith)
    c.wide.ensures.0 c.wide.ensures.1 c.low_first.ensures.0 c.low_first.ensures.1
