-- `score::sums::parts` meets its contract. Assumes nothing.
use borrow.Author.Rules.{rules}
use Rattle.score.specs.Sums.{parts_of}
use Rattle.score.proofs.sums.parts.Goals as goal

pub returns : goal.returns
unfolding parts_of
returns c = (cc, search rules)
