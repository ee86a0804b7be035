use native.Mathlib.Omega.{arith}
use mathlib.Core.Path.{refl}
use Rattle.stores.proofs.ChangeLaws.{window_of}
use Rattle.stores.proofs.MarkLaws.{seen_none}
use Rattle.stores.proofs.WantLaws.{stores_none, stores_more, stores_done, given_kept}
use Rattle.stores.proofs.wants.flag_stored.Goals as goal

pub mark_all-requires : goal.mark_all-requires
mark_all-requires c = seen_none _ refl

pub loop-p-init : goal.loop-p-init
loop-p-init c = (omega arith, stores_none _ _ _)

pub flag_window-requires : goal.flag_window-requires
flag_window-requires c =
    let l = c.loop-p in (
      window_of _ _ c.requires.0 (omega arith),
      (given_kept _ _ _ _ c.requires.1 l.invariant.1, c.mark_all.ensures),
    )

pub loop-p-preserved : goal.loop-p-preserved
loop-p-preserved c =
    let l = c.loop-p in
    (omega arith, stores_more _ _ l.p _ _ _ l.invariant.1 c.flag_window.ensures)

pub returns : goal.returns
returns c =
    let l = c.loop-p in
    stores_done _ _ l.p _ _ l.invariant.0 (omega arith) l.invariant.1
