use Prim.Native.Nat.{◌+◌}
use mathlib.Core.Path.{◌∙◌}
use native.Mathlib.Omega.{arith}
use lib.ListN.{length-set}
use Rattle.notes.proofs.HeldLaws.{aging_start, aging_in, aging_out, aging_done}
use Rattle.notes.proofs.age_row.Goals.{then-age-lt2, else-age-lt2}
use Rattle.notes.proofs.age_row.Goals as goal

pub loop-i-init : goal.loop-i-init
loop-i-init c = aging_start _ _ _ _

pub bounds-cells-at-then-age-lt2 : goal.bounds-cells-at-then-age-lt2
bounds-cells-at-then-age-lt2 c =
    let l = c.loop-i in
    let e = l.invariant.size in
    omega arith

pub overflow_add-cells-then-age-lt2 : goal.overflow_add-cells-then-age-lt2
overflow_add-cells-then-age-lt2 c = let h = c.loop-i.invariant.few in omega arith

pub offset_bounds-cells-at-then-age-lt2-2 : goal.offset_bounds-cells-at-then-age-lt2-2
offset_bounds-cells-at-then-age-lt2-2 c = let h = c.loop-i.invariant.few in omega arith

pub bounds-cells-at-then-age-lt2-2 : goal.bounds-cells-at-then-age-lt2-2
bounds-cells-at-then-age-lt2-2 c = let l = c.loop-i.invariant in let h = l.few in let e = l.size in omega arith

pub with_top-left-requires : goal.with_top-left-requires
with_top-left-requires c =
    let l = c.loop-i in
    let h = l.invariant.few in
    (omega arith, (l.invariant.small, omega arith))

pub overflow_add-m : goal.overflow_add-m
overflow_add-m c = let h = c.loop-i.invariant.few in omega arith

pub loop-i-preserved : goal.loop-i-preserved
loop-i-preserved c =
    let l = c.loop-i in
    let a = c.args in
    elim c.if-age-lt2.branch [
      | then-age-lt2 w ↦ aging_in a.cells.now l.cells c.if-age-lt2.cells a.at _ a.n l.i l.m c.if-age-lt2.m l.left c.if-age-lt2.left
          c.digit-age.result (omega arith) (let p = c.requires in omega arith) l.invariant c.digit-age.ensures.0 w.if-age-lt2.true w.cells-is
          (w.left-is ∙ w.with_top-left.ensures.0) w.m-is
      | else-age-lt2 w ↦ aging_out a.cells.now l.cells c.if-age-lt2.cells a.at _ a.n l.i l.m c.if-age-lt2.m l.left c.if-age-lt2.left
          c.digit-age.result (omega arith) (let p = c.requires in omega arith) l.invariant c.digit-age.ensures.0 w.if-age-lt2.false w.cells-is w.left-is
          w.m-is
    ]

pub bounds-cells-at-2 : goal.bounds-cells-at-2
bounds-cells-at-2 c = let e = c.loop-i.invariant.size in omega arith

pub shape_of-cells : goal.shape_of-cells
shape_of-cells c =
    let l = c.loop-i in
    length-set l.cells (c.args.at + 32) l.left ∙ l.invariant.size

pub returns : goal.returns
returns c =
    let l = c.loop-i in
    aging_done c.args.cells.now l.cells c.args.at c.args.n l.i l.m l.left c.requires.row c.requires.held
    (omega arith) l.invariant
