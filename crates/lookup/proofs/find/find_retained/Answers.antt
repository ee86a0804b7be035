use Rattle.lookup.specs.Find.{find_retained}
use Rattle.lookup.proofs.find.find_retained.Goals as goal

pub returns : goal.returns
unfolding find_retained
returns c = c.find.ensures
