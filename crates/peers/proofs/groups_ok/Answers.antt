-- `peers::groups_ok`: how many there are, then each.
-- Assumes nothing.
use Rattle.peers.proofs.GroupLaws.{count_fails, each_are}
use Rattle.peers.proofs.groups_ok.Goals as goal

pub returns-then-not-groups : goal.returns-then-not-groups
returns-then-not-groups c = count_fails _ c.if-not-groups.true

pub returns : goal.returns
returns c = each_are _ _ c.if-not-groups.false c.each_ok.ensures
