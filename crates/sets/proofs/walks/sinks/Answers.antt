-- `sets::walks::sinks` meets its contract.
-- Assumes nothing.
use Rattle.sets.proofs.walks.sinks.Goals as goal

pub returns : goal.returns
returns c = cc
