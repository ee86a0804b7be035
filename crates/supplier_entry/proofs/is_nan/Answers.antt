-- `supplier_entry::is_nan` meets its contract. Assumes nothing.
use Rattle.supplier_entry.proofs.EntryLaws.{nan_test}
use Rattle.supplier_entry.proofs.is_nan.Goals as goal

pub returns : goal.returns
returns c = nan_test c.args.u
