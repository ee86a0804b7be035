-- `topics::change_reply`: 11 of a graylisted peer, else the record and the clock.
-- Assumes nothing.
use Rattle.gate.proofs.StandingLaws.{gray_is}
use Rattle.topics.specs.Change.{change_reply}
use Rattle.topics.proofs.ReplyLaws.{else_ignored, else_done}
use Rattle.topics.proofs.change_reply.Goals as goal

pub returns-then-sender : goal.returns-then-sender
unfolding change_reply
returns-then-sender c = search (else_ignored, gray_is)

pub returns : goal.returns
unfolding change_reply
returns c = search (else_done, gray_is)
