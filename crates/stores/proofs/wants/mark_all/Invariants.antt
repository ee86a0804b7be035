-- `stores::wants::mark_all`: the numbers so far have marked their buckets. Assumes nothing.
use lib.ListN.{take}
use Rattle.stores.specs.Marks.{Seen}
use Rattle.stores.proofs.wants.mark_all.Given as goal

abbrev pub invariant-loop-n : goal.invariant-loop-n
invariant-loop-n l = Seen (take l.n-index l.numbers) l.seen
