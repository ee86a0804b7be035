use Rattle.index.proofs.Kit.{arith}
use Rattle.rpc_write.specs.Tables.{known_by}
use Rattle.rpc_write.proofs.WriteLaws.{good, length_none, length_more, length_all}
use Rattle.rpc_write.proofs.kind_size.Goals as goal

pub loop-i-init : goal.loop-i-init
loop-i-init c = let a = c.args in
    (omega arith, (omega arith, length_none (known_by a.t.now) a.list.now a.kind a.number))

pub entry_at-requires : goal.entry_at-requires
entry_at-requires c = let g = good _ _ _ c.requires.0 in let r = g.room in omega arith

pub one_size-size-requires : goal.one_size-size-requires
one_size-size-requires c = let q = c.requires in let g = good _ _ _ q.0 in
    rw c.entry_at.ensures (g.little _ c.loop-i-test.true, q.1)

pub overflow_add-size : goal.overflow_add-size
overflow_add-size c = let g = good _ _ _ c.requires.0 in omega
    (arith, c.one_size-size.ensures.1, c.loop-i.invariant.1.0)

pub loop-i-preserved : goal.loop-i-preserved
loop-i-preserved c = let l = c.loop-i in let a =
    c.args in (
      omega arith,
      (
        omega (arith, c.one_size-size.ensures.1, l.invariant.1.0),
        length_more (known_by a.t.now) a.list.now a.kind
            a.number _ _ _ l.invariant.1.1 (rw c.entry_at.ensures at c.one_size-size.ensures.0),
      ),
    )

pub returns : goal.returns
returns c = let g = good _ _ _ c.requires.0 in let l = c.loop-i in let a =
    c.args in
    length_all (known_by a.t.now) a.list.now a.kind a.number _ _ _ l.invariant.0
    c.loop-i-test.false g.few l.invariant.1.0 l.invariant.1.1
