-- The set-up stands after every list of calls: it is part of the invariant of demand 3.
-- Assumes nothing.
use Rattle.call_lists.specs.Setup.{SetupStands}
use Rattle.call_lists.proofs.Demand3.{standing}

pub setup_stands : SetupStands
setup_stands params calls ok = (standing params ok calls).setup
