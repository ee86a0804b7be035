-- `topics::change_slot`: the one store or the other.
use Rattle.topics.proofs.ReplyLaws.{changed_on, changed_off}
use Rattle.topics.proofs.change_slot.Goals as goal

pub returns-then-on : goal.returns-then-on
returns-then-on c = search changed_on

pub returns-else-on : goal.returns-else-on
returns-else-on c = search changed_off
