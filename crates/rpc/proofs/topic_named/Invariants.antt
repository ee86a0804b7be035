-- `rpc::topic_named` meets its contract. Assumes nothing.
use Rattle.std.proofs.Common.{None}
use Rattle.index.proofs.Kit.{◌≤◌, ◌≡◌, first}
use Rattle.rpc.proofs.TopicLaws.{here}
use Rattle.rpc.proofs.topic_named.Given as goal

abbrev pub invariant-loop-k : goal.invariant-loop-k
invariant-loop-k l = (l.k ≤ 8) × (first l.k (here l.names l.s l.start l.stop) ≡ None)
