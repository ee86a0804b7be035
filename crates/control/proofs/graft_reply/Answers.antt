-- `control::graft_reply`: each arm of the match is a case of the rules, and gives what the rules do then.
-- Assumes nothing.
use Rattle.rules.specs.declared.GraftCase.TheVariants.{AlreadyMember, InBackoff, Enters}
use Rattle.rules.proofs.EndLaws.{gives_ignored, gives_still, gives_done}
use Rattle.control.proofs.GraftLaws.{refusable, refusable_raised, graft_at, graft_ignored, graft_pruned, refused_seen, refused_raised}
use Rattle.control.proofs.graft_reply.Goals as goal

pub graft_refused-requires : goal.graft_refused-requires
graft_refused-requires c = search refusable_raised

pub graft_refused-requires-in-Explicit : goal.graft_refused-requires-in-Explicit
graft_refused-requires-in-Explicit c = search refusable

pub returns-in-NotJoined : goal.returns-in-NotJoined
returns-in-NotJoined c = search (graft_ignored, gives_ignored)

pub returns-in-AlreadyMember : goal.returns-in-AlreadyMember
returns-in-AlreadyMember c = search (graft_at AlreadyMember, gives_still)

pub returns-in-Explicit : goal.returns-in-Explicit
returns-in-Explicit c = search (graft_pruned, refused_seen)

pub returns-in-InBackoff : goal.returns-in-InBackoff
returns-in-InBackoff c = search (graft_at InBackoff, refused_raised)

pub returns-in-Enters : goal.returns-in-Enters
returns-in-Enters c = search (graft_at Enters, gives_done)
