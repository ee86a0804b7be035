-- `supplier::write_theirs` meets its contract. Assumes nothing.
use Rattle.supplier.proofs.OutputLaws.{theirs_stored}
use Rattle.supplier.proofs.write_theirs.Goals as goal

pub returns-in-Ok : goal.returns-in-Ok
returns-in-Ok c = theirs_stored c.args.all.numbers _ _ _ _ c.in-Ok.is c.requires c.export.ensures

pub returns-in-Err : goal.returns-in-Err
returns-in-Err c = theirs_stored c.args.all.numbers _ _ _ _ c.in-Err.is c.requires c.export.ensures
