use mathlib.Core.Path.{refl, sym, ◌∙◌}
use native.Mathlib.Omega.{arith}
use Rattle.layout.specs.View.{state_of}
use Rattle.save_write.proofs.WriteLaws.{rows_start, rows_sum, rows_total}
use Rattle.save_write.proofs.bytes.rows_size.Goals as goal

pub loop-key-init : goal.loop-key-init
loop-key-init c =
    (omega arith, (refl, (rows_start (state_of c.args.table.now) c.args.time c.args.keys.now, omega arith)))

pub slice_bounds-fill_row-end : goal.slice_bounds-fill_row-end
slice_bounds-fill_row-end c = sym c.loop-key.invariant.1.0

pub fill_row-requires : goal.fill_row-requires
fill_row-requires c = (
  c.requires.0,
  (c.slot_of.ensures.1, c.loop-key.invariant.1.0),
)

pub slice_bounds-row_size-end : goal.slice_bounds-row_size-end
slice_bounds-row_size-end c = sym
    (c.fill_row.auto.row ∙ c.loop-key.invariant.1.0)

pub row_size-sum-requires : goal.row_size-sum-requires
row_size-sum-requires c = let e = c.fill_row.auto.row
    ∙ c.loop-key.invariant.1.0 in omega arith

pub loop-key-preserved : goal.loop-key-preserved
loop-key-preserved c =
    let l = c.loop-key in
    let f = c.fill_row in
    let n = c.slot_of in
    let t = c.loop-key-test.true in (
      omega arith,
      (
        f.auto.row ∙ l.invariant.1.0,
        (
          rows_sum (state_of c.args.table.now) c.args.time c.args.keys.now l.key-index n.result f.new.row t
              n.ensures.0
              f.ensures
              l.sum
              c.row_size-sum.result
              l.invariant.1.1.0
              c.row_size-sum.ensures.0,
          omega arith,
        ),
      ),
    )

pub returns : goal.returns
returns c =
    let l = c.loop-key in (
      rows_total (state_of c.args.table.now) c.args.time c.args.keys.now l.key-index l.sum c.loop-key-test.false
          l.invariant.1.1.0,
      omega arith,
    )
