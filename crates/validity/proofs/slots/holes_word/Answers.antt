use mathlib.Core.Path.{sym, ◌∙◌}
use native.Mathlib.Omega.{arith}
use lib.Count.{trailing_le}
use Rattle.slot_words.proofs.WalkLaws.{walk_start, walk_bit, walk_more, walk_stop, walk_end, lowest_low, falls, refused}
use Rattle.validity.proofs.slots.holes_word.Goals as goal

pub loop-b-init : goal.loop-b-init
loop-b-init c = walk_start _ _ (omega arith)

pub overflow_cast-s : goal.overflow_cast-s
overflow_cast-s c = omega (arith, trailing_le 64 c.loop-b.b)

pub overflow_add-s : goal.overflow_add-s
overflow_add-s c = omega (arith, trailing_le 64 c.loop-b.b)

pub returns-then-n-s : goal.returns-then-n-s
returns-then-n-s c e =
    let l = c.loop-b in
    walk_stop _ _ l.b (omega arith) l.invariant (λ j m h. absurd (omega arith))

pub empty_slot-requires : goal.empty_slot-requires
empty_slot-requires c =
    let l = c.loop-b in
    let h = lowest_low l.b (omega arith) l.invariant.small in
    (c.requires.0, (omega arith, c.requires.1.1.empty _ h (walk_bit _ _ l.b (omega arith) l.invariant)))

pub returns-then-not-empty_slot : goal.returns-then-not-empty_slot
returns-then-not-empty_slot c e = refused e

pub loop-b-smaller : goal.loop-b-smaller
loop-b-smaller c = let l = c.loop-b in falls l.b (omega arith) l.invariant.small

pub loop-b-preserved : goal.loop-b-preserved
loop-b-preserved c =
    let l = c.loop-b in
    walk_more _ _ l.b (omega arith) l.invariant (λ h. (sym c.empty_slot.ensures ∙ c.if-not-empty_slot.false))

pub returns : goal.returns
returns c e = walk_end _ _ c.loop-b.b (omega arith) c.loop-b.invariant
