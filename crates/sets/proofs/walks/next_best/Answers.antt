-- `sets::walks::next_best` meets its contract.
-- Assumes nothing.
use Rattle.sets.proofs.walks.next_best.Goals as goal

pub returns : goal.returns
returns c = rw (← c.except-rest.ensures) c.top.ensures
