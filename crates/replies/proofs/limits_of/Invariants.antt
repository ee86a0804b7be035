-- `replies::limits_of`: when j lanes are left, those from j on are put together.
use Rattle.replies.specs.Asked.{on_bits}
use Rattle.replies.proofs.LimitLaws.{Joined}
use Rattle.replies.proofs.limits_of.Given as goal

abbrev pub invariant-loop-j : goal.invariant-loop-j
invariant-loop-j l = Joined (on_bits l.connected) l.most l.k l.j l.w
