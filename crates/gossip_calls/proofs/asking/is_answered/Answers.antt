-- `gossip_calls::asking::is_answered`: the tests in another order.
use Rattle.gossip_calls.proofs.AskLaws.{answered_not, answered_is}
use Rattle.gossip_calls.proofs.asking.is_answered.Goals as goal

pub returns-then-not-is_joined-may_ihave : goal.returns-then-not-is_joined-may_ihave
returns-then-not-is_joined-may_ihave c = search answered_not

pub returns : goal.returns
returns c = search answered_is
