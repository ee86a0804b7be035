use Rattle.lookup.specs.Find.{find_connected}
use Rattle.lookup.proofs.find.find_connected.Goals as goal

pub returns : goal.returns
unfolding find_connected
returns c = c.find.ensures
