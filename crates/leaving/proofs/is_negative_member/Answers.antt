-- `leaving::is_negative_member`: the score is taken of a member alone.
use Rattle.index.proofs.Flags.{failed, passed}
use Rattle.gate.proofs.StandingLaws.{negative_of_lem}
use Rattle.leaving.proofs.LeaveLaws.{no_member, of_member}
use Rattle.leaving.proofs.is_negative_member.Goals as goal

pub returns-then-not-is_member : goal.returns-then-not-is_member
returns-then-not-is_member c = search (no_member, failed)

pub returns : goal.returns
returns c = search (of_member, passed, negative_of_lem)
