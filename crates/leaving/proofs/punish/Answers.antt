-- `leaving::punish`: the counter grows where the flag says so.
use borrow.Author.Rules.{rules}
use Rattle.leaving.proofs.LeaveLaws.{grown_then, grown_else, grown_fits}
use Rattle.leaving.proofs.punish.Goals as goal

pub grown-requires : goal.grown-requires
grown-requires c = rw c.load_params-t.ensures c.requires.threshold

pub store_topic-requires : goal.store_topic-requires
store_topic-requires c =
    (search rules, (search rules, grown_fits _ _ _ c.load_topic-r.ensures.1 c.grown.ensures))

pub shape_of-table : goal.shape_of-table
shape_of-table c = c.store_topic.auto.cells

pub returns-then-negative : goal.returns-then-negative
returns-then-negative c = search grown_then

pub returns-else-negative : goal.returns-else-negative
returns-else-negative c = search grown_else
