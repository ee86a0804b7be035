-- `gossip_table::tests::is_gossip`: the four tests in the order of the definition.
use Rattle.index.proofs.Flags.{yes, no}
use Rattle.gossip_table.proofs.StoreParts.{stores_size}
use Rattle.gossip_table.proofs.TestLaws.{stores_judged, gossip_broken1, gossip_broken2, gossip_broken3, gossip_judged}
use Rattle.gossip_table.proofs.tests.is_gossip.Goals as goal

pub returns-then-not-numbers_ok : goal.returns-then-not-numbers_ok
returns-then-not-numbers_ok c = gossip_broken1 _ _ (no c.numbers_ok.ensures c.if-not-numbers_ok.true)

pub returns-then-not-notes_ok : goal.returns-then-not-notes_ok
returns-then-not-notes_ok c = gossip_broken2 _ _ (no c.notes_ok.ensures c.if-not-notes_ok.true)

pub returns-then-not-stores_ok : goal.returns-then-not-stores_ok
returns-then-not-stores_ok c = gossip_broken3 _ _ (no c.stores_ok.ensures c.if-not-stores_ok.true)

pub replies_ok-requires : goal.replies_ok-requires
replies_ok-requires c =
    record {
      size = c.requires.size;
      router = c.requires.router;
      sizes = c.requires.sizes;
      windows =
          stores_judged c.args.gossip.now _ (stores_size c.args.gossip.now c.requires.sizes)
          (yes c.stores_ok.ensures c.if-not-stores_ok.false);
    }

pub returns : goal.returns
returns c =
    gossip_judged _ _ _
    (yes c.numbers_ok.ensures c.if-not-numbers_ok.false)
    (yes c.notes_ok.ensures c.if-not-notes_ok.false)
    (yes c.stores_ok.ensures c.if-not-stores_ok.false)
    c.replies_ok.ensures
