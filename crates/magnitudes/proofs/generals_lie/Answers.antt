use native.Mathlib.Omega.{arith}
use Rattle.index.proofs.Index.{every_none, every_more, every_done}
use Rattle.limits.specs.Limits.{general_count}
use Rattle.magnitudes.proofs.SizeLaws.{never, general_row}
use Rattle.magnitudes.proofs.generals_lie.Goals as goal

pub loop-i-init : goal.loop-i-init
loop-i-init c = (omega arith, every_none _)

pub lies-requires : goal.lies-requires
lies-requires c =
    let s = c.requires in
    let i = c.loop-i.i in
    (s.0, (omega arith, (general_row _ _ i (omega arith) s.1.0, general_row _ _ i (omega arith) s.1.1)))

pub returns-then-not-lies : goal.returns-then-not-lies
returns-then-not-lies c e = never e

pub loop-i-preserved : goal.loop-i-preserved
loop-i-preserved c =
    let l = c.loop-i in
    (omega arith, every_more _ l.i l.invariant.1 (c.lies.ensures c.if-not-lies.false))

pub returns : goal.returns
returns c e = every_done _ general_count c.loop-i.i (omega arith) (omega arith) c.loop-i.invariant.1
