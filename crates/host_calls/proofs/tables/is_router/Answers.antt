-- `host_calls::is_router` meets its contract. Assumes nothing.
use Rattle.host_calls.proofs.HostLaws.{told_flag}
use Rattle.host_calls.proofs.tables.is_router.Goals as goal

pub returns : goal.returns
returns c = search told_flag
