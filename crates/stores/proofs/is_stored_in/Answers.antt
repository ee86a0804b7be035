use native.Mathlib.Omega.{arith}
use mathlib.Core.Path.{sym, ◌∙◌}
use Rattle.index.proofs.Flags.{yes, no}
use Rattle.stores.proofs.ChangeLaws.{window_in}
use Rattle.stores.proofs.HasLaws.{some_none, some_more, some_out, some_in}
use Rattle.stores.proofs.ViewLaws.{stored_store}
use Rattle.stores.proofs.is_stored_in.Goals as goal

pub loop-w-init : goal.loop-w-init
loop-w-init c = (omega arith, some_none _)

pub is_in_window-requires : goal.is_in_window-requires
is_in_window-requires c = window_in _ _ _ c.requires (omega arith)

pub returns-then-is_in_window : goal.returns-then-is_in_window
returns-then-is_in_window c =
    some_out _ _ c.loop-w.w (omega arith) (yes c.is_in_window.ensures c.if-is_in_window.true)
    ∙ sym (stored_store _ _ _ c.requires.low)

pub loop-w-preserved : goal.loop-w-preserved
loop-w-preserved c =
    (omega arith, some_more _ _ c.loop-w.invariant.1 (no c.is_in_window.ensures c.if-is_in_window.false))

pub returns : goal.returns
returns c =
    let l = c.loop-w in
    some_in _ _ l.w l.invariant.0 (omega arith) l.invariant.1 ∙ sym (stored_store _ _ _ c.requires.low)
