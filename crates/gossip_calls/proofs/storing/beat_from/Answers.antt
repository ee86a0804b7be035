-- `gossip_calls::storing::beat_from`: the array, then the clock.
use Rattle.gossip_gate.proofs.AdmittedLaws.{admitted_fine}
use Rattle.gossip_calls.proofs.StoreLaws.{beat_done}
use Rattle.gossip_calls.proofs.storing.beat_from.Goals as goal

pub beat_all-requires : goal.beat_all-requires
beat_all-requires c = search admitted_fine

pub returns : goal.returns
returns c = search beat_done
