use native.Mathlib.Omega.{arith}
use Rattle.validity.proofs.LookLaws.{free_in, holes_told}
use Rattle.validity.proofs.slots.holes_right.Goals as goal

pub holes_word-requires : goal.holes_word-requires
holes_word-requires c = (c.requires.size, (omega arith, free_in _ _ c.free-f.ensures.1 0 (omega arith)))

pub holes_word-requires-2 : goal.holes_word-requires-2
holes_word-requires-2 c = (c.requires.size, (omega arith, free_in _ _ c.free-f.ensures.1 1 (omega arith)))

pub holes_word-requires-3 : goal.holes_word-requires-3
holes_word-requires-3 c =
    (c.requires.size, (omega arith, free_in _ _ c.free-f.ensures.1 2 (omega arith)))

pub holes_word-requires-4 : goal.holes_word-requires-4
holes_word-requires-4 c =
    (c.requires.size, (omega arith, free_in _ _ c.free-f.ensures.1 3 (omega arith)))

pub returns : goal.returns
returns c =
    holes_told _ _ c.free-f.ensures.1 _ _ _ _ _ c.requires.slots
    c.holes_word.ensures c.holes_word-2.ensures
    c.holes_word-3.ensures c.holes_word-4.ensures
