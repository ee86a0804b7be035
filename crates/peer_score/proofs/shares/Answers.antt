-- `peer_score::shares`: one test of what is loaded, as 1 or 0.
-- Assumes nothing.
use borrow.Author.Rules.{rules}
use Rattle.peer_score.proofs.SharingLaws.{shares_at}
use Rattle.peer_score.proofs.shares.Goals as goal

pub returns-then-status-holds : goal.returns-then-status-holds
returns-then-status-holds c = (
  shares_at _ _ _ _ _ _ _ c.load_status-status.ensures c.load_groups.ensures c.holds_group-holds.ensures c.if-status-holds.true,
  search rules,
)

pub returns-else-status-holds : goal.returns-else-status-holds
returns-else-status-holds c = (
  shares_at _ _ _ _ _ _ _ c.load_status-status.ensures c.load_groups.ensures c.holds_group-holds.ensures c.if-status-holds.false,
  search rules,
)
