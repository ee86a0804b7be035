use Rattle.magnitudes.proofs.SizeLaws.{lies_told}
use Rattle.magnitudes.proofs.lies.Goals as goal

pub returns : goal.returns
returns c = let s = c.requires in lies_told _ _ s.1.0 _ c.load_magnitude-m.ensures.1 _ _ s.1.1.0 s.1.1.1
