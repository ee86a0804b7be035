-- `supplier::put_exported` meets its contract.
-- An export that is done has written all its bytes into the page, so that the lines are those of the page's front.
-- Assumes nothing.
use Rattle.index.proofs.Kit.{sym, ◌∙◌, arith}
use lib.Seq.{length-take-le}
use Rattle.supplier.proofs.OutputLaws.{done_length, exported_done, exported_outside, exported_short}
use Rattle.supplier.proofs.put_exported.Goals as goal

pub slice_bounds-put_entries-end : goal.slice_bounds-put_entries-end
slice_bounds-put_entries-end c =
    let n = done_length c.args.all.numbers c.args.page.now _ _ c.requires.1
    c.export.ensures _
    c.in-Ok.is in
    omega (arith, c.export.auto.buf, c.requires.1)

pub slice_bounds-put_entries-end-in-Ok : goal.slice_bounds-put_entries-end-in-Ok
slice_bounds-put_entries-end-in-Ok c =
    let n = done_length c.args.all.numbers c.args.page.now _ _ c.requires.1
    c.export.ensures _
    c.in-Ok.is in
    sym (length-take-le _ _
    (omega (
      arith,
      c.export.auto.buf,
      c.requires.1,
    )))

pub put_entries-requires : goal.put_entries-requires
put_entries-requires c =
    let n = done_length c.args.all.numbers c.args.page.now _ _ c.requires.1
    c.export.ensures _
    c.in-Ok.is in (
      omega (arith, c.put_done-at.auto.buf, c.put_done-at.ensures.1),
      length-take-le _ _
          (omega (
            arith,
            c.export.auto.buf,
            c.requires.1,
          )) ∙ n,
    )

pub shape_of-buf-in-Ok : goal.shape_of-buf-in-Ok
shape_of-buf-in-Ok c = c.put_entries.auto.buf ∙ c.put_done-at.auto.buf

pub shape_of-page-in-Ok : goal.shape_of-page-in-Ok
shape_of-page-in-Ok c = c.export.auto.buf

pub returns-in-Ok : goal.returns-in-Ok
returns-in-Ok c = (
  exported_done c.args.all.numbers c.args.page.now _ _ c.requires.1
      c.export.ensures _ c.in-Ok.is _ _ _ _ _
      c.put_done-at.ensures.0 c.put_entries.ensures.0,
  omega (
    arith,
    c.put_done-at.ensures.1,
    c.put_entries.ensures.1,
  ),
)

pub shape_of-buf-in-Err-Outside : goal.shape_of-buf-in-Err-Outside
shape_of-buf-in-Err-Outside c = c.put_head.auto.buf

pub shape_of-page-in-Err-Outside : goal.shape_of-page-in-Err-Outside
shape_of-page-in-Err-Outside c = c.export.auto.buf

pub returns-in-Err-Outside : goal.returns-in-Err-Outside
returns-in-Err-Outside c = (
  exported_outside
      c.args.all.numbers
      c.args.page.now _ _
      c.requires.1
      c.export.ensures _ _ _ _
      (rw c.in-Err-Outside.field-0-is at c.in-Err-Outside.is) c.put_head.ensures.0,
  omega arith,
)

pub shape_of-page-in-Err-Short : goal.shape_of-page-in-Err-Short
shape_of-page-in-Err-Short c = c.export.auto.buf

pub returns-in-Err-Short : goal.returns-in-Err-Short
returns-in-Err-Short c = exported_short c.args.all.numbers
    c.args.page.now _ _
    c.requires.1 c.export.ensures
    (rw c.in-Err-Short.field-0-is at c.in-Err-Short.is)
