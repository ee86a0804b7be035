use mathlib.Core.Path.{sym, ◌∙◌}
use native.Mathlib.Omega.{arith}
use Rattle.index.proofs.Index.{every_none, every_more, every_out, every_done}
use Rattle.records.specs.Records.{slot_count}
use Rattle.validity.proofs.RestLaws.{slots_rest}
use Rattle.validity.proofs.valid.slots_ok.Goals as goal

pub loop-slot-init : goal.loop-slot-init
loop-slot-init c = (omega arith, every_none _)

pub slot_ok-requires : goal.slot_ok-requires
slot_ok-requires c =
    let b = c.requires.0.low in
    (c.requires.0.size, (omega arith, (record { p2 = c.caps-caps2.ensures; p3 = c.caps-caps3.ensures }, c.requires.1)))

pub returns-then-not-slot_ok : goal.returns-then-not-slot_ok
returns-then-not-slot_ok c =
    let b = c.requires.0.low in
    let t = c.loop-slot-test.true in
    every_out _ slot_count c.loop-slot.slot (omega arith) (sym c.slot_ok.ensures ∙ c.if-not-slot_ok.true)

pub loop-slot-preserved : goal.loop-slot-preserved
loop-slot-preserved c =
    let l = c.loop-slot in
    (omega arith, every_more _ _ l.invariant.1 (sym c.slot_ok.ensures ∙ c.if-not-slot_ok.false))

pub returns : goal.returns
returns c =
    let l = c.loop-slot in
    sym (slots_rest _ _ c.requires.0.low c.requires.0.empty (every_done _ _ l.slot l.invariant.0 (omega arith) l.invariant.1))
