use mathlib.Core.Path.{ap}
use Rattle.records.specs.declared.Groups.{Groups}
use Rattle.validity.proofs.LookLaws.{name_told}
use Rattle.validity.proofs.slots.name_at.Goals as goal

pub returns : goal.returns
returns c = name_told _ _ _ _ _ c.load_status-status.ensures c.load_id-id.ensures
    (ap (λ (g : Groups). g.first) c.load_groups-g.ensures)
