-- `host_forms::from_old` meets its contract. Assumes nothing.
use Rattle.host_forms.proofs.TurningLaws.{hosts_from_old}
use Rattle.host_forms.proofs.from_old.Goals as goal

pub returns : goal.returns
returns c = hosts_from_old _ _ _ _ _ c.from_rows.ensures c.turned.ensures
