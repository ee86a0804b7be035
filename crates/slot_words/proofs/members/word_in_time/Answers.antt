use native.Mathlib.Omega.{arith}
use lib.Count.{trailing_le}
use Rattle.slot_words.proofs.WalkLaws.{walk_start, walk_bit, walk_more, walk_end, lowest_low, falls, refused}
use Rattle.slot_words.proofs.members.word_in_time.Goals as goal

pub loop-b-init : goal.loop-b-init
loop-b-init c = walk_start _ _ (omega arith)

pub overflow_cast-slot : goal.overflow_cast-slot
overflow_cast-slot c = omega (arith, trailing_le 64 c.loop-b.b)

pub overflow_add-slot : goal.overflow_add-slot
overflow_add-slot c = omega (arith, trailing_le 64 c.loop-b.b)

pub in_time-requires : goal.in_time-requires
in_time-requires c =
    let l = c.loop-b in
    let h = lowest_low l.b (omega arith) l.invariant.small in
    (c.requires.0, (omega arith, (c.requires.1.0, c.requires.1.1.1.member _ h (walk_bit _ _ l.b (omega arith) l.invariant))))

pub returns-then-not-in_time : goal.returns-then-not-in_time
returns-then-not-in_time c e = refused e

pub loop-b-smaller : goal.loop-b-smaller
loop-b-smaller c = let l = c.loop-b in falls l.b (omega arith) l.invariant.small

pub loop-b-preserved : goal.loop-b-preserved
loop-b-preserved c =
    let l = c.loop-b in
    walk_more _ _ l.b (omega arith) l.invariant (c.in_time.ensures c.if-not-in_time.false)

pub returns : goal.returns
returns c e = walk_end _ _ c.loop-b.b (omega arith) c.loop-b.invariant
