-- `rpc_write::fitting` meets its contract. Assumes nothing.
use Rattle.rpc_write.proofs.WriteLaws.{fits_none, fits_all, fits_some}
use Rattle.rpc_write.proofs.fitting.Goals as goal

pub returns-then-end-at : goal.returns-then-end-at
returns-then-end-at c = fits_none _ _ _ c.if-end-at.true

pub returns-then-size-end : goal.returns-then-size-end
returns-then-size-end c = fits_all _ _ _ c.if-size-end.true

pub returns-else-size-end : goal.returns-else-size-end
returns-else-size-end c = fits_some _ _ _ c.if-end-at.false c.if-size-end.false
