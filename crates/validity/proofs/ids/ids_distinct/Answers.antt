use mathlib.Core.Path.{◌∙◌}
use Rattle.index.proofs.Kit.{refl, sym, arith, rules}
use Rattle.index.proofs.Index.{every-loop, every_more, every_out, every_done}
use Rattle.records.specs.Records.{slot_count}
use Rattle.validity.proofs.IdLaws.{seen_none}
use Rattle.validity.proofs.RestLaws.{ids_rest}
use Rattle.validity.proofs.ids.ids_distinct.Goals as goal

pub loop-slot-init : goal.loop-slot-init
loop-slot-init c = (omega arith, search (every-loop, rules), seen_none _ _ refl)

pub next_new-requires : goal.next_new-requires
next_new-requires c =
    let b = c.requires.low in
    record { cells = c.requires.size; slot = omega arith; marks = c.loop-slot.invariant.2 }

pub returns-then-not-next_new : goal.returns-then-not-next_new
returns-then-not-next_new c =
    let b = c.requires.low in
    every_out _ slot_count c.loop-slot.slot (omega arith) (sym c.next_new.ensures.0 ∙ c.if-not-next_new.true)

pub loop-slot-preserved : goal.loop-slot-preserved
loop-slot-preserved c =
    let l = c.loop-slot in
    (omega arith, every_more _ _ l.invariant.1 (sym c.next_new.ensures.0 ∙ c.if-not-next_new.false), c.next_new.ensures.1)

pub returns : goal.returns
returns c =
    let l = c.loop-slot in
    sym (ids_rest _ _ c.requires.low c.requires.empty (every_done _ _ l.slot l.invariant.0 (omega arith) l.invariant.1))
