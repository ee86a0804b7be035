-- `peer_score::sharing_at`: nothing for no group, else what is counted.
-- Assumes nothing.
use Rattle.peer_score.proofs.SharingLaws.{none_at, some_at}
use Rattle.peer_score.proofs.sharing_at.Goals as goal

pub returns-then-group-eq0 : goal.returns-then-group-eq0
returns-then-group-eq0 c = none_at _ _ c.if-group-eq0.true

pub returns : goal.returns
returns c = some_at _ _ _ c.if-group-eq0.false c.sharing_of.ensures
