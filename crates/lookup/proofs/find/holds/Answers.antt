use Rattle.lookup.specs.Find.{holds}
use Rattle.lookup.proofs.find.holds.Goals as goal

pub returns : goal.returns
unfolding holds
returns c = cc
