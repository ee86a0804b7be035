use native.Mathlib.Omega.{arith}
use borrow.Author.Rules.{rules}
use mathlib.Core.Bool.{true, false}
use Rattle.sets.proofs.WalkLaws.{size_step, size_end}
use Rattle.sets.proofs.permutation.marks.Goals.{then-mark, else-mark}
use Rattle.sets.proofs.permutation.marks.Goals as goal

pub loop-mark-init : goal.loop-mark-init
loop-mark-init c = (search rules, search rules, search rules, search rules)

pub loop-mark-preserved : goal.loop-mark-preserved
loop-mark-preserved c =
    let m = c.args.m in
    let l = c.loop-mark in
    elim c.if-mark.branch [
      | then-mark w ↦ (let e = size_step m l.mark-index (omega arith) true w.if-mark.true in (omega arith, l.invariant.1, omega arith, omega arith))
      | else-mark w ↦ (let e = size_step m l.mark-index (omega arith) false w.if-mark.false in (omega arith, l.invariant.1, omega arith, omega arith))
    ]

pub returns : goal.returns
returns c =
    let m = c.args.m in
    let l = c.loop-mark in
    let e = size_end m l.mark-index (omega arith) in
    omega arith
