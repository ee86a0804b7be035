-- `host_forms::to_old` meets its contract. Assumes nothing.
use Rattle.host_forms.proofs.TurningLaws.{hosts_to_old}
use Rattle.host_forms.proofs.to_old.Goals as goal

pub returns : goal.returns
returns c = hosts_to_old _ _ _ _ _ c.to_rows.ensures c.turned.ensures
