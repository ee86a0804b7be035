-- `sets::walks::takes` meets its contract.
-- Assumes nothing.
use Rattle.sets.proofs.walks.takes.Goals as goal

pub returns : goal.returns
returns c = cc
