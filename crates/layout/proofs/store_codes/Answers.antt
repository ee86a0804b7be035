use Prim.Native.Nat.{◌<◌}
use mathlib.Core.Path.{sym, ◌∙◌}
use native.Mathlib.Omega.{arith}
use Rattle.records.specs.Records.{param_count}
use Rattle.layout.proofs.CopyLaws.{codes_start, codes_more, codes_end}
use Rattle.layout.proofs.store_codes.Goals as goal

pub loop-i-init : goal.loop-i-init
loop-i-init c =
    (omega arith, c.requires.0, codes_start c.args.codes.now c.args.cells.now)

pub bounds-codes-i : goal.bounds-codes-i
bounds-codes-i c = let e = c.requires.1.size in omega arith

pub store_magnitude-requires : goal.store_magnitude-requires
store_magnitude-requires c = (c.loop-i.invariant.1, omega arith)

pub loop-i-preserved : goal.loop-i-preserved
loop-i-preserved c =
    let l = c.loop-i in
    let k = c.store_magnitude in
    let h : l.i < param_count = omega arith in (
      omega arith,
      k.auto.cells ∙ l.invariant.1,
      codes_more c.args.codes.now c.args.cells.now l.cells _ l.i _ c.requires.1 h
          c.magnitude.ensures l.invariant.2 k.ensures,
    )

pub shape_of-cells : goal.shape_of-cells
shape_of-cells c = c.loop-i.invariant.1 ∙ sym c.requires.0

pub returns : goal.returns
returns c =
    let l = c.loop-i in
    codes_end c.args.codes.now c.args.cells.now l.cells l.i c.requires.1 l.invariant.0 (omega arith) l.invariant.2
