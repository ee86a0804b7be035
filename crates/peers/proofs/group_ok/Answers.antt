-- `peers::group_ok`: its bits, and of a later one the order.
-- Assumes nothing.
use borrow.Author.Rules.{rules}
use Rattle.peers.proofs.GroupLaws.{group_first, group_later}
use Rattle.peers.proofs.group_ok.Goals as goal

pub returns-then-k-eq0 : goal.returns-then-k-eq0
returns-then-k-eq0 c = search (group_first, rules)

pub returns : goal.returns
returns c = search (group_later, rules)
