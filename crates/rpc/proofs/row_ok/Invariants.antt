-- `rpc::row_ok` meets its contract: the loop's invariant: no row before `j` has the same name. A way out for a length that is too long and
-- for none. Assumes nothing.
use Rattle.index.proofs.Kit.{◌*◌, ◌≤◌, ◌≡◌, true, every}
use lib.ListN.{get_or}
use Rattle.rpc.proofs.TopicLaws.{free_of}
use Rattle.rpc.specs.Reading.{row_bytes}
use Rattle.rpc.proofs.row_ok.Given as goal

abbrev pub invariant-loop-j : goal.invariant-loop-j
invariant-loop-j l = (l.j ≤ l.k) × (every l.j (free_of l.names l.k (get_or l.names (row_bytes * l.k) 0)) ≡ true)
