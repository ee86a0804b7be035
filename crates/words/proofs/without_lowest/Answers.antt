use native.Mathlib.Omega.{arith}
use mir.Syntax.{w64}
use mir.Val.{Fits}
use borrow.Author.Rules.{rules}
use mathlib.Core.Path.{refl, sym}
use mathlib.Core.Bool.{false}
use lib.ListN.{get_or}
use Rattle.words.specs.Words.{bits_of, lowest}
use Rattle.words.proofs.WideLaws.{passed_none, passed_zero, cleared_hit, passed_all, set_past}
use Rattle.words.proofs.without_lowest.Goals as goal

pub loop-i-init : goal.loop-i-init
loop-i-init c = (omega arith, search rules, passed_none _)

pub returns-then-w-ne0 : goal.returns-then-w-ne0
returns-then-w-ne0 c =
    let l = c.loop-i in
    let m = c.args.m in
    let w = get_or m l.i 0 in
    let f : Fits w64 w = search rules in
    cleared_hit m l.i w (omega arith) refl l.invariant.2 (omega arith) f.fits

pub loop-i-preserved : goal.loop-i-preserved
loop-i-preserved c =
    let l = c.loop-i in
    (omega arith, l.invariant.1, passed_zero _ l.i _ (omega arith) refl l.invariant.2 c.if-w-ne0.false)

pub returns : goal.returns
returns c =
    let l = c.loop-i in
    let m = c.args.m in
    let e = passed_all m l.i (omega arith) l.invariant.2 in
    sym (set_past m (lowest (bits_of m)) false (omega arith))
