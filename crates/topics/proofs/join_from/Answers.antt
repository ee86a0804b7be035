-- `topics::join_from`: 11 of a joined topic, else the flag and the clock.
use Rattle.rules.specs.Step.{join_reply}
use Rattle.topics.proofs.ReplyLaws.{else_ignored, else_done}
use Rattle.topics.proofs.join_from.Goals as goal

pub returns-then-is_joined : goal.returns-then-is_joined
unfolding join_reply
returns-then-is_joined c = search else_ignored

pub returns : goal.returns
unfolding join_reply
returns c = search else_done
