-- `control::graft_refused`: the seconds, the PRUNE, the record and the clock, each as the callee ensures it.
-- Assumes nothing.
use borrow.Author.Rules.{rules}
use Rattle.control.proofs.GraftLaws.{end_fits, refused_gives}
use Rattle.control.proofs.graft_refused.Goals as goal

pub store_peer-requires : goal.store_peer-requires
store_peer-requires c = search (end_fits, rules)

pub returns : goal.returns
returns c = search refused_gives
