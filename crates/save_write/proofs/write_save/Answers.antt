-- `save_write::write_save`: the sizes first; then the front and the rows. Assumes nothing.
use mathlib.Core.Path.{refl, ◌∙◌}
use Rattle.layout.specs.View.{state_of}
use Rattle.save_write.proofs.SaveLaws.{keys_few, write_short, write_room, write_rest, write_done}
use Rattle.save_write.proofs.write_save.Goals as goal

pub slice_bounds-row_size-end : goal.slice_bounds-row_size-end
slice_bounds-row_size-end c = refl

pub rows_size-requires : goal.rows_size-requires
rows_size-requires c =
    (c.requires.0, keys_few (state_of c.args.table.now) c.args.time c.args.keys.now c.requires.1)

pub returns-then-buf-size : goal.returns-then-buf-size
returns-then-buf-size c =
    write_short (state_of c.args.table.now) c.requires.0.router c.args.time c.args.keys.now c.requires.1 _ _
    c.row_size.ensures.0
    c.rows_size.ensures.0
    c.args.buf.now
    c.if-buf-size.true

pub slice_bounds-put_row-end : goal.slice_bounds-put_row-end
slice_bounds-put_row-end c = refl

pub put_row-at-requires : goal.put_row-at-requires
put_row-at-requires c =
    write_room (state_of c.args.table.now) c.requires.0.router c.args.time c.args.keys.now c.requires.1 _ _
    c.row_size.ensures.0
    c.rows_size.ensures.0
    c.args.buf.now
    c.if-buf-size.false

pub put_rows-requires : goal.put_rows-requires
put_rows-requires c =
    let p = c.put_row-at in (
      c.requires.0,
      (
        keys_few (state_of c.args.table.now) c.args.time c.args.keys.now c.requires.1,
        write_rest (state_of c.args.table.now) c.requires.0.router c.args.time c.args.keys.now c.requires.1 _ _
            c.row_size.ensures.0
            c.rows_size.ensures.0
            c.args.buf.now
            p.result
            p.new.buf
            p.ensures
            c.if-buf-size.false
            p.auto.buf,
      ),
    )

pub shape_of-buf : goal.shape_of-buf
shape_of-buf c = c.put_rows.auto.buf ∙ c.put_row-at.auto.buf

pub returns : goal.returns
returns c =
    let p = c.put_row-at in
    let q = c.put_rows in
    write_done (state_of c.args.table.now) c.requires.0.router c.args.time c.args.keys.now c.requires.1 _ _
    c.row_size.ensures.0
    c.rows_size.ensures.0
    c.args.buf.now
    p.result
    p.new.buf
    p.ensures
    c.if-buf-size.false
    q.result
    q.new.buf
    q.ensures
