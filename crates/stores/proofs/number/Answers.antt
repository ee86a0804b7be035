use mathlib.Core.Path.{sym}
use Rattle.stores.proofs.ViewLaws.{window_get_or}
use Rattle.stores.proofs.number.Goals as goal

pub returns : goal.returns
returns c =
    rw c.start.ensures (sym (window_get_or _ _ _ c.requires.1))
