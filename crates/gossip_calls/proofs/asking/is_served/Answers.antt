-- `gossip_calls::asking::is_served`: the tests in another order.
use Rattle.index.proofs.Kit.{arith}
use Rattle.gossip_calls.proofs.AskLaws.{served_not, served_is}
use Rattle.gossip_calls.proofs.asking.is_served.Goals as goal

pub returns-then-load_reply_bound-count : goal.returns-then-load_reply_bound-count
returns-then-load_reply_bound-count c = search served_not

pub returns : goal.returns
returns c =
    let z = c.if-load_reply_bound-count.false in
    served_is _ _ _ _ _ _ c.requires c.count.ensures c.load_reply_bound.ensures _ c.under_gossip.ensures (omega arith)
