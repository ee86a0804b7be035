use native.Mathlib.Omega.{arith}
use mathlib.Core.Path.{refl}
use lib.ListN.{length-set}
use Rattle.trace_feed.proofs.WindowLaws.{shifted_none, shifted_more, shifted_all}
use Rattle.trace_feed.proofs.shift.Goals as goal

pub loop-k-init : goal.loop-k-init
loop-k-init c = (omega arith, (omega arith, (refl, shifted_none c.args.at _)))

pub loop-k-preserved : goal.loop-k-preserved
loop-k-preserved c =
    let i = c.loop-k.invariant in
    (omega arith, (omega arith, (simp length-set i.1.1.0, shifted_more _ _ _ _ _ i.1.1.1 refl (omega (arith, i.1.0)))))

pub returns : goal.returns
returns c =
    let i = c.loop-k.invariant in
    shifted_all _ _ _ _ _ _ c.requires.0 c.requires.1 refl i.0 c.loop-k-test.false i.1.1.1
