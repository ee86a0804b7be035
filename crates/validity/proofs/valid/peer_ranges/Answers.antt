use Rattle.validity.specs.Valid.{peer_ranges}
use Rattle.validity.proofs.valid.peer_ranges.Goals as goal

pub returns : goal.returns
unfolding peer_ranges
returns c = cc
