-- `params::accepts_codes` meets its contract. Assumes nothing.
use mathlib.Core.Path.{ap}
use Rattle.params.specs.Editions.{known}
use Rattle.params.proofs.CheckLaws.{edition_known, edition_unknown}
use Rattle.params.proofs.accepts_codes.Goals as goal

pub returns-in-Ok : goal.returns-in-Ok
returns-in-Ok c = edition_known _ _ _ c.try_from.ensures _ _ (ap known c.in-Ok.is) c.accepts.ensures

pub returns-in-Err : goal.returns-in-Err
returns-in-Err c = edition_unknown _ _ _ c.try_from.ensures (ap known c.in-Err.is)
