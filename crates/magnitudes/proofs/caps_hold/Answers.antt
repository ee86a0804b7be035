use native.Mathlib.Omega.{arith}
use Rattle.index.proofs.Index.{every_none, every_more, every_done}
use Rattle.records.specs.Records.{topic_count}
use Rattle.magnitudes.proofs.SizeLaws.{never}
use Rattle.magnitudes.proofs.caps_hold.Goals as goal

pub loop-t-init : goal.loop-t-init
loop-t-init c = (omega arith, every_none _)

pub cap_holds-requires : goal.cap_holds-requires
cap_holds-requires c = let s = c.requires in (s.0, (s.1, omega arith))

pub returns-then-not-cap_holds : goal.returns-then-not-cap_holds
returns-then-not-cap_holds c e = never e

pub loop-t-preserved : goal.loop-t-preserved
loop-t-preserved c =
    let l = c.loop-t in
    (omega arith, every_more _ l.t l.invariant.1 (c.cap_holds.ensures c.if-not-cap_holds.false))

pub returns : goal.returns
returns c e = every_done _ topic_count c.loop-t.t (omega arith) (omega arith) c.loop-t.invariant.1
