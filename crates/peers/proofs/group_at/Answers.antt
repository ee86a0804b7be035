-- `peers::group_at`: the group + 1, or 0 past the last.
-- Assumes nothing.
use native.Mathlib.Omega.{arith}
use borrow.Author.Rules.{rules}
use Rattle.peers.proofs.GroupLaws.{at_fits, at_held, at_none}
use Rattle.peers.proofs.group_at.Goals as goal

pub overflow_add-result : goal.overflow_add-result
overflow_add-result c =
    omega (arith, at_fits _ _ c.requires c.if-k-groups.true)

pub returns-then-k-groups : goal.returns-then-k-groups
returns-then-k-groups c = search (at_held, rules)

pub returns-else-k-groups : goal.returns-else-k-groups
returns-else-k-groups c = search (at_none, rules)
