use Rattle.validity.proofs.LookLaws.{retain_told}
use Rattle.validity.proofs.slots.retain_at.Goals as goal

pub returns : goal.returns
returns c = retain_told _ _ _ _ _ c.load_status-status.ensures c.load_retain-retain.ensures
