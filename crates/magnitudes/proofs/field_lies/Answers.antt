use native.Mathlib.Omega.{arith}
use Rattle.index.proofs.Index.{every_none, every_more, every_done}
use Rattle.records.specs.Records.{topic_count}
use Rattle.magnitudes.specs.Sizes.{least, most}
use Rattle.magnitudes.proofs.SizeLaws.{never, topic_row}
use Rattle.magnitudes.proofs.field_lies.Goals as goal

pub loop-t-init : goal.loop-t-init
loop-t-init c = (omega arith, every_none _)

pub lies-requires : goal.lies-requires
lies-requires c =
    let s = c.requires in
    let a = c.args in
    let t = c.loop-t.t in (
      s.0,
      (
        omega arith,
        (topic_row least t a.j a.low s.1.0 s.1.1.0, topic_row most t a.j a.high s.1.0 s.1.1.1),
      ),
    )

pub returns-then-not-lies : goal.returns-then-not-lies
returns-then-not-lies c e = never e

pub loop-t-preserved : goal.loop-t-preserved
loop-t-preserved c =
    let l = c.loop-t in
    (omega arith, every_more _ l.t l.invariant.1 (c.lies.ensures c.if-not-lies.false))

pub returns : goal.returns
returns c e = every_done _ topic_count c.loop-t.t (omega arith) (omega arith) c.loop-t.invariant.1
