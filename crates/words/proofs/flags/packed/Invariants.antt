-- `words::flags::packed` meets its contract. The bits below j are the flags passed, and those above are 0.
-- Assumes nothing.
use Rattle.words.proofs.WideLaws.{Packing}
use Rattle.words.proofs.flags.packed.Given as goal

abbrev pub invariant-loop-j : goal.invariant-loop-j
invariant-loop-j l = Packing l.flags l.i l.j l.w
