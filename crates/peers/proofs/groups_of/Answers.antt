-- `peers::groups_of`: one group for each place.
-- Assumes nothing.
use Rattle.rules.specs.Calls.{groups_of}
use Rattle.peers.proofs.groups_of.Goals as goal

pub returns : goal.returns
unfolding groups_of
returns c = cc
