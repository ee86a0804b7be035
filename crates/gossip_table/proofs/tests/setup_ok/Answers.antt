-- `gossip_table::tests::setup_ok`: the same tests, bracketed as the definition.
use Rattle.index.proofs.Kit.{refl}
use Rattle.gossip.specs.Valid.{setup_ok}
use Rattle.gossip_table.specs.View.{setup_of}
use Rattle.gossip_table.proofs.tests.setup_ok.Goals as goal

pub returns : goal.returns
unfolding setup_ok setup_of
returns c = refl
