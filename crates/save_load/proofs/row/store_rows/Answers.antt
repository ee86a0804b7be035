use mathlib.Core.Path.{refl, sym, ◌∙◌}
use native.Mathlib.Omega.{arith}
use Rattle.index.proofs.Index.{iter_none, iter_done}
use Rattle.layout.specs.View.{state_of}
use Rattle.saves.specs.Load.{row_at}
use Rattle.save_load.specs.Store.{stored}
use Rattle.save_load.proofs.StoreLaws.{record_at, record_read, record_row, row_fits_lem, store_none, store_more}
use Rattle.save_load.proofs.row.store_rows.Goals as goal

pub loop-k-init : goal.loop-k-init
loop-k-init c = (omega arith, (c.requires.0, (refl, λ l end w. (store_none _ _ l, sym (iter_none _ _)))))

pub slice_bounds-read_row-end : goal.slice_bounds-read_row-end
slice_bounds-read_row-end c = sym c.loop-k.invariant.1.1.0

pub read_row-place-requires : goal.read_row-place-requires
read_row-place-requires c =
    let l = c.loop-k in
    let a = c.args in
    let d = c.requires.1.1.1 in (
      record_read a.s.now a.at d.l l.k l.place
          (record_at a.n a.s.now a.at d.l d.end d.whole l.k l.place c.loop-k-test.true
          (l.invariant.1.1.1 d.l d.end d.whole).0),
      l.invariant.1.1.0,
    )

pub slice_bounds-store_row-end : goal.slice_bounds-store_row-end
slice_bounds-store_row-end c = sym (c.read_row-place.auto.row ∙ c.loop-k.invariant.1.1.0)

pub store_row-requires : goal.store_row-requires
store_row-requires c =
    let l = c.loop-k in
    let a = c.args in
    let d = c.requires.1.1.1 in
    let h = c.loop-k-test.true in
    let r = c.read_row-place in
    let few = c.requires.1.0 in (
      l.invariant.1.0,
      (
        omega arith,
        (
          c.requires.1.1.0,
          row_fits_lem a.n d.l d.fits l.k h r.new.row
              (record_row a.s.now a.at d.l l.k l.place
              (record_at a.n a.s.now a.at d.l d.end d.whole l.k l.place h
              (l.invariant.1.1.1 d.l d.end d.whole).0)
              r.new.row
              r.result
              r.ensures
              ).0,
        ),
      ),
    )

pub loop-k-preserved : goal.loop-k-preserved
loop-k-preserved c =
    let l = c.loop-k in
    let a = c.args in
    let h = c.loop-k-test.true in
    let r = c.read_row-place in
    let w = c.store_row in (
      omega arith,
      (
        w.auto.table ∙ l.invariant.1.0,
        (
          r.auto.row ∙ l.invariant.1.1.0,
          λ m end e.
              let g = l.invariant.1.1.1 m end e in
              store_more a.n a.s.now a.at a.clock m end e l.k l.place h g.0 r.new.row r.result
              r.ensures
              (state_of a.table.now)
              (state_of l.table)
              (state_of w.new.table)
              g.1
              w.ensures,
        ),
      ),
    )

pub shape_of-table : goal.shape_of-table
shape_of-table c = c.loop-k.invariant.1.0 ∙ sym c.requires.0

pub returns : goal.returns
returns c l end w =
    let i = c.loop-k in
    let a = c.args in
    iter_done (λ j. stored a.clock (row_at l j) j) (state_of a.table.now) a.n i.k (state_of i.table) i.invariant.0
    c.loop-k-test.false
    (i.invariant.1.1.1 l end w).1
