use Rattle.magnitudes.proofs.SizeLaws.{size_of, thresholds_told}
use Rattle.magnitudes.proofs.thresholds_hold.Goals as goal

pub returns : goal.returns
returns c = thresholds_told _ _ _ _ (size_of _ 9 _ c.load_magnitude-graylist.ensures.0)
    (size_of _ 10 _ c.load_magnitude-gossip.ensures.0)
    (size_of _ 11 _ c.load_magnitude-publish.ensures.0)
