use Rattle.index.proofs.Kit.{refl, ◌∙◌, arith}
use Rattle.rpc_write.specs.Tables.{known_by}
use Rattle.rpc_write.proofs.WriteLaws.{good, kind_none, kind_more, kind_all}
use Rattle.rpc_write.proofs.put_kind.Goals as goal

pub loop-i-init : goal.loop-i-init
loop-i-init c = let a = c.args in let k = known_by a.t.now in
    (omega arith, (refl, (omega arith, kind_none k a.list.now a.kind a.number a.buf.now a.at)))

pub entry_at-requires : goal.entry_at-requires
entry_at-requires c = let g = good _ _ _ c.requires.0 in let r = g.room in omega arith

pub put_one-place-requires : goal.put_one-place-requires
put_one-place-requires c =
    let q = c.requires in
    let g = good _ _ _ q.0 in
    (rw c.entry_at.ensures (g.little _ c.loop-i-test.true), (q.1.0, omega arith))

pub loop-i-preserved : goal.loop-i-preserved
loop-i-preserved c =
    let l = c.loop-i in
    let a = c.args in
    let k = known_by a.t.now in (
      omega arith,
      (
        c.put_one-place.auto.buf ∙ l.invariant.1.0,
        (
          omega (arith, c.put_one-place.ensures.1),
          kind_more k a.list.now a.kind a.number
              a.buf.now a.at l.i _ _ _ _ l.invariant.1.1.1 (rw c.entry_at.ensures at c.put_one-place.ensures.0),
        ),
      ),
    )

pub shape_of-buf : goal.shape_of-buf
shape_of-buf c = c.loop-i.invariant.1.0

pub returns : goal.returns
returns c =
    let g = good _ _ _ c.requires.0 in
    let a = c.args in
    let k = known_by a.t.now in
    kind_all k a.list.now a.kind a.number a.buf.now a.at _ _ _ _ c.loop-i.invariant.0
    c.loop-i-test.false g.few c.loop-i.invariant.1.1.0 c.loop-i.invariant.1.1.1
