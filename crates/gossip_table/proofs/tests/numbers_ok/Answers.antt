-- `gossip_table::tests::numbers_ok`: the numbers of the head.
use Rattle.gossip_table.specs.View.{setup_of}
use Rattle.gossip_table.proofs.TestLaws.{numbers_judged}
use Rattle.gossip_table.proofs.tests.numbers_ok.Goals as goal

pub returns : goal.returns
unfolding setup_of
returns c =
    numbers_judged c.args.gossip.now _ _ _ _ _ _ c.load_limit.ensures c.load_lazy.ensures c.load_factor.ensures
    c.load_ihave_bound.ensures c.load_reply_bound.ensures c.setup_ok.ensures
