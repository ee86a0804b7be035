use mathlib.Core.Path.{refl, sym, ◌∙◌}
use native.Mathlib.Omega.{arith}
use Rattle.save_write.proofs.WriteLaws.{rows_begin, rows_room, rows_put, rows_written}
use Rattle.layout.specs.View.{state_of}
use Rattle.save_write.proofs.bytes.put_rows.Goals as goal

pub loop-key-init : goal.loop-key-init
loop-key-init c = (
  omega arith,
  (
    refl,
    (refl, rows_begin (state_of c.args.table.now) c.args.time c.args.keys.now c.args.at c.args.buf.now),
  ),
)

pub slice_bounds-fill_row-end : goal.slice_bounds-fill_row-end
slice_bounds-fill_row-end c = sym c.loop-key.invariant.1.0

pub fill_row-requires : goal.fill_row-requires
fill_row-requires c = (
  c.requires.0,
  (c.slot_of.ensures.1, c.loop-key.invariant.1.0),
)

pub slice_bounds-put_row-end : goal.slice_bounds-put_row-end
slice_bounds-put_row-end c = sym
    (c.fill_row.auto.row
    ∙ c.loop-key.invariant.1.0)

pub put_row-place-requires : goal.put_row-place-requires
put_row-place-requires c =
    let l = c.loop-key in
    let f = c.fill_row in
    let n = c.slot_of in
    rows_room (state_of c.args.table.now) c.args.time c.args.keys.now l.key-index n.result f.new.row
    c.loop-key-test.true
    n.ensures.0
    f.ensures
    c.args.at
    c.args.buf.now
    l.place
    l.buf
    l.invariant.1.1.1
    c.requires.1.1

pub loop-key-preserved : goal.loop-key-preserved
loop-key-preserved c =
    let l = c.loop-key in
    let f = c.fill_row in
    let n = c.slot_of in
    let p = c.put_row-place in
    let t = c.loop-key-test.true in (
      omega arith,
      (
        f.auto.row ∙ l.invariant.1.0,
        (
          p.auto.buf ∙ l.invariant.1.1.0,
          rows_put (state_of c.args.table.now) c.args.time c.args.keys.now l.key-index n.result f.new.row t
              n.ensures.0
              f.ensures
              c.args.at
              c.args.buf.now
              l.place
              l.buf
              l.invariant.1.1.1
              p.result
              p.new.buf
              p.ensures,
        ),
      ),
    )

pub shape_of-buf : goal.shape_of-buf
shape_of-buf c = c.loop-key.invariant.1.1.0

pub returns : goal.returns
returns c =
    let l = c.loop-key in
    rows_written (state_of c.args.table.now) c.args.time c.args.keys.now c.args.at c.args.buf.now l.key-index
    l.place l.buf
    c.loop-key-test.false
    l.invariant.1.1.1
