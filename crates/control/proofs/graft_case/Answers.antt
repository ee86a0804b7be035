-- `control::graft_case`: at each return the tests before it failed.
-- Assumes nothing.
use Rattle.rules.specs.Step.{graft_case}
use Rattle.rules.proofs.FirstLaws.{first_holds}
use Rattle.control.proofs.graft_case.Goals as goal

pub returns-then-not-v : goal.returns-then-not-v
unfolding graft_case
returns-then-not-v c = search first_holds

pub returns-then-sender : goal.returns-then-sender
unfolding graft_case
returns-then-sender c = search first_holds

pub returns-then-r-eq1 : goal.returns-then-r-eq1
unfolding graft_case
returns-then-r-eq1 c = search first_holds

pub returns-then-p-eq1 : goal.returns-then-p-eq1
unfolding graft_case
returns-then-p-eq1 c = search first_holds

pub returns-then-time-p : goal.returns-then-time-p
unfolding graft_case
returns-then-time-p c = search first_holds depth 12

pub returns-then-sender-2 : goal.returns-then-sender-2
unfolding graft_case
returns-then-sender-2 c = search first_holds depth 12

pub returns-then-r-ne1 : goal.returns-then-r-ne1
unfolding graft_case
returns-then-r-ne1 c = search first_holds depth 12

pub returns-then-crowded-p : goal.returns-then-crowded-p
unfolding graft_case
returns-then-crowded-p c = search first_holds depth 12

pub returns : goal.returns
unfolding graft_case
returns c = search first_holds depth 12
