use Prim.Native.Nat.{ℕ}
use native.Mathlib.Omega.{arith}
use Rattle.index.proofs.Index.{every_none, every_more, every_done}
use lib.ListN.{get_or}
use mathlib.Core.Path.{ap}
use mathlib.Core.List.{List}
use Prim.Native.Nat.{◌+◌}
use Rattle.limits.specs.Limits.{of_topic}
use Rattle.magnitudes.proofs.SizeLaws.{never}
use Rattle.magnitudes.proofs.fields_lie.Goals as goal

pub loop-j-init : goal.loop-j-init
loop-j-init c = (omega arith, every_none _)

pub field_lies-requires : goal.field_lies-requires
field_lies-requires c =
    let s = c.requires in
    let j = c.loop-j.j in
    (s.0, (omega arith, (ap (λ (x : List ℕ). get_or x (19 + j) 0) s.1.0, ap (λ (x : List ℕ). get_or x (19 + j) 0) s.1.1)))

pub returns-then-not-field_lies : goal.returns-then-not-field_lies
returns-then-not-field_lies c e = never e

pub loop-j-preserved : goal.loop-j-preserved
loop-j-preserved c =
    let l = c.loop-j in
    (omega arith, every_more _ l.j l.invariant.1 (c.field_lies.ensures c.if-not-field_lies.false))

pub returns : goal.returns
returns c e = every_done _ of_topic c.loop-j.j (omega arith) (omega arith) c.loop-j.invariant.1
