-- `gossip_old::is_router`: the table first, and then the array beside it.
use Rattle.index.proofs.Flags.{yes, no}
use Rattle.index.proofs.Kit.{rules}
use Rattle.gossip_old.proofs.OldLaws.{test_table, test_array}
use Rattle.gossip_old.proofs.is_router.Goals as goal

pub returns-then-not-is_router : goal.returns-then-not-is_router
returns-then-not-is_router c = test_table _ _ (no c.is_router.ensures c.if-not-is_router.true)

pub is_gossip-requires : goal.is_gossip-requires
is_gossip-requires c =
    record {
      size = search rules;
      router = yes c.is_router.ensures c.if-not-is_router.false;
      sizes = search rules;
    }

pub returns : goal.returns
returns c =
    test_array _ _ _ (yes c.is_router.ensures c.if-not-is_router.false) c.is_gossip.ensures
