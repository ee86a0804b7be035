use Rattle.validity.specs.Valid.{zero_peer}
use Rattle.validity.proofs.valid.zero_peer.Goals as goal

pub returns : goal.returns
unfolding zero_peer
returns c = cc
