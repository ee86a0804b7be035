-- `rpc::value_of` meets its contract. Assumes nothing.
use borrow.Author.Rules.{rules}
use Rattle.rpc.proofs.TopicLaws.{values}
use Rattle.rpc.proofs.value_of.Goals as goal

pub returns-then-value-eq0 : goal.returns-then-value-eq0
returns-then-value-eq0 c = search (values, rules)

pub returns-else-value-eq0 : goal.returns-else-value-eq0
returns-else-value-eq0 c = search (values, rules)

pub returns-else-kind-eq-SUBSCRIPTION : goal.returns-else-kind-eq-SUBSCRIPTION
returns-else-kind-eq-SUBSCRIPTION c = search (values, rules)
