-- `save_load::slots_of`: each end by its test. Assumes nothing.
use borrow.Author.Rules.{rules}
use Rattle.save_load.proofs.CheckLaws.{slots_one, slots_two, slots_none}
use Rattle.save_load.proofs.slots_of.Goals as goal

pub returns-in-1 : goal.returns-in-1
returns-in-1 c = slots_one _ c.in-1.is

pub returns-in-2 : goal.returns-in-2
returns-in-2 c = slots_two _ c.in-2.is

pub returns-in_default : goal.returns-in_default
returns-in_default c = slots_none _ (search rules) (search rules)
