-- `replies::reply`: the row of n is there, or is put at its place in order; then its count is one more.
use mathlib.Core.Path.{sym, ◌∙◌}
use native.Mathlib.Omega.{arith}
use Rattle.replies.proofs.RowLaws.{rows_length}
use Rattle.replies.proofs.CallLaws.{found_here, reply_here, new_room, new_small, reply_new}
use Rattle.replies.proofs.reply.Goals as goal

pub add_count-requires : goal.add_count-requires
add_count-requires c =
    let p = c.place_of-p in
    let t = sym c.is_row.ensures ∙ c.if-is_row.true in
    let f = found_here c.args.cells.now c.args.n c.args.slot p.result p.ensures t in
    let e = rows_length c.args.cells.now in
    let h = f.0 in
    record { size = c.requires.size; row = omega arith; slot = c.requires.slot; small = rw (sym f.1) c.requires.small }

pub shape_of-cells-then-is_row : goal.shape_of-cells-then-is_row
shape_of-cells-then-is_row c = c.add_count.ensures.size

pub returns-then-is_row : goal.returns-then-is_row
returns-then-is_row c =
    let p = c.place_of-p in
    let t = sym c.is_row.ensures ∙ c.if-is_row.true in
    reply_here c.args.cells.now c.args.n c.args.slot p.result p.ensures _ t c.add_count.ensures

pub insert-requires : goal.insert-requires
insert-requires c =
    let p = c.place_of-p in
    let t = sym c.is_row.ensures ∙ c.if-is_row.false in
    let e = rows_length c.args.cells.now in
    let l = p.ensures.low in
    record {
      size = c.requires.size;
      place = omega arith;
      room = new_room c.args.cells.now c.args.n c.args.slot p.result p.ensures t c.requires.room;
    }

pub add_count-requires-2 : goal.add_count-requires-2
add_count-requires-2 c =
    let p = c.place_of-p in
    let t = sym c.is_row.ensures ∙ c.if-is_row.false in
    let i = c.insert.ensures in
    let e = rows_length c.args.cells.now in
    let l = p.ensures.low in
    let r = new_room c.args.cells.now c.args.n c.args.slot p.result p.ensures t c.requires.room in
    record {
      size = i.size ∙ c.requires.size;
      row = omega arith;
      slot = c.requires.slot;
      small = new_small c.args.cells.now c.args.n c.args.slot p.result p.ensures _ i.rows c.requires.slot;
    }

pub shape_of-cells : goal.shape_of-cells
shape_of-cells c = c.add_count-2.ensures.size ∙ c.insert.ensures.size

pub returns : goal.returns
returns c =
    let p = c.place_of-p in
    let t = sym c.is_row.ensures ∙ c.if-is_row.false in
    reply_new c.args.cells.now c.args.n c.args.slot p.result p.ensures _ c.insert.ensures.rows _ t
    c.add_count-2.ensures c.requires.slot
