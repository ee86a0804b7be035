-- `host_parameters::export` meets its contract. Assumes nothing.
use Rattle.host_parameters.proofs.supplier.export.Goals as goal

pub returns : goal.returns
returns c = c.put_theirs.ensures
