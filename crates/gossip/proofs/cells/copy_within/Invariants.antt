-- `gossip::cells::copy_within`: upwards the first k cells are copied, downwards those from k on.
use Rattle.gossip.proofs.CellLaws.{Copying}
use Rattle.gossip.proofs.cells.copy_within.Given as goal

abbrev pub invariant-loop-k : goal.invariant-loop-k
invariant-loop-k l = Copying l.initial.cells l.cells l.from l.to 0 l.k

abbrev pub invariant-loop-i : goal.invariant-loop-i
invariant-loop-i l = Copying l.initial.cells l.cells l.from l.to l.i l.n
