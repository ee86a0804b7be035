-- `sets::median::few_below` meets its contract.
-- Assumes nothing.
use Rattle.sets.proofs.median.few_below.Goals as goal

pub at_least-requires : goal.at_least-requires
at_least-requires c = c.requires

pub returns : goal.returns
returns c = rw (c.size.ensures, c.except.ensures, c.at_least.ensures)
