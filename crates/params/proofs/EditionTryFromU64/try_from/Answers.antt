-- `Edition::try_from` meets its contract. Assumes nothing.
use borrow.Author.Rules.{rules}
use Rattle.params.proofs.CheckLaws.{is_first, is_second, is_neither}
use Rattle.params.proofs.EditionTryFromU64.try_from.Goals as goal

pub returns-in-1 : goal.returns-in-1
returns-in-1 c = is_first _ c.in-1.is

pub returns-in-2 : goal.returns-in-2
returns-in-2 c = is_second _ c.in-2.is

pub returns-in_default : goal.returns-in_default
returns-in_default c = is_neither _ (search rules) (search rules)
