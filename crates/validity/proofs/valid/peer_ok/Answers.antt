use Rattle.validity.specs.Valid.{used_ok, empty_ok, retain_ok, peer_ok}
use Rattle.validity.proofs.valid.peer_ok.Goals as goal

pub returns : goal.returns
unfolding peer_ok used_ok empty_ok retain_ok
returns c = cc
