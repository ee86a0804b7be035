-- `rpc::put_entry` meets its contract. Assumes nothing.
use borrow.Author.Rules.{rules}
use Rattle.rpc.proofs.ListLaws.{three}
use Rattle.rpc.proofs.put_entry.Goals as goal

pub returns : goal.returns
returns c = search (three, rules)
