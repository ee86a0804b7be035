-- `supplier::put_hex` meets its contract. Assumes nothing.
use borrow.Author.Rules.{rules}
use Rattle.supplier.proofs.TextLaws.{hex_stored}
use Rattle.supplier.proofs.put_hex.Goals as goal

pub returns : goal.returns
returns c = search (hex_stored, rules)
