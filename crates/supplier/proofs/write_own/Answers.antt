-- `supplier::write_own` meets its contract. Assumes nothing.
use borrow.Author.Rules.{rules}
use Rattle.supplier.proofs.OutputLaws.{own_stored}
use Rattle.supplier.proofs.write_own.Goals as goal

pub returns-in-Ok : goal.returns-in-Ok
returns-in-Ok c = own_stored c.args.all _ _ _ _ c.in-Ok.is c.requires (search rules) c.write.ensures

pub returns-in-Err : goal.returns-in-Err
returns-in-Err c = own_stored c.args.all _ _ _ _ c.in-Err.is c.requires (search rules) c.write.ensures
