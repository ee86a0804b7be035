-- `rpc::keep` meets its contract. Assumes nothing.
use borrow.Author.Rules.{rules}
use Rattle.rpc.proofs.HeldLaws.{keeps}
use Rattle.rpc.proofs.keep.Goals as goal

pub returns-in-Name : goal.returns-in-Name
returns-in-Name c = search (keeps, rules)

pub returns-in-Value : goal.returns-in-Value
returns-in-Value c = search (keeps, rules)

pub returns-in-Skipped : goal.returns-in-Skipped
returns-in-Skipped c = search (keeps, rules)

pub returns-in-Inner : goal.returns-in-Inner
returns-in-Inner c = search (keeps, rules)

pub returns-in-Entry : goal.returns-in-Entry
returns-in-Entry c = search (keeps, rules)

pub returns-in-Id : goal.returns-in-Id
returns-in-Id c = search (keeps, rules)
