-- `stores::announce`: the three windows are copied one behind the other, the oldest first.
use native.Mathlib.Omega.{arith}
use mathlib.Core.Path.{refl}
use Rattle.stores.proofs.ChangeLaws.{window_in, window_first}
use Rattle.stores.proofs.ListLaws.{announced_lists}
use Rattle.stores.proofs.announce.Goals as goal

pub append-a-requires : goal.append-a-requires
append-a-requires c =
    (window_in _ _ _ c.requires.0 (omega arith), omega arith)

pub append-b-requires : goal.append-b-requires
append-b-requires c =
    (window_in _ _ _ c.requires.0 (omega arith), omega arith)

pub append-requires : goal.append-requires
append-requires c =
    (window_first _ _ c.requires.0, omega arith)

pub returns : goal.returns
returns c =
    announced_lists _ _ _ _ _ _ _ _ _ _ c.requires.0.low refl c.append-a.ensures.0 c.append-a.ensures.1.0
    c.append-b.ensures.0 c.append-b.ensures.1.0 c.append.ensures.0 c.append.ensures.1.0
