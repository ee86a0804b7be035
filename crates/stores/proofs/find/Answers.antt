use native.Mathlib.Omega.{arith}
use mathlib.Core.Path.{sym, ◌∙◌}
use Rattle.index.proofs.Flags.{yes, no}
use Rattle.stores.proofs.ChangeLaws.{window_of}
use Rattle.stores.proofs.HasLaws.{some_none, some_more, some_out, some_in}
use Rattle.stores.proofs.ListLaws.{place_out}
use Rattle.stores.proofs.ViewLaws.{stored_all}
use Rattle.stores.proofs.find.Goals as goal

pub loop-p-init : goal.loop-p-init
loop-p-init c = (omega arith, some_none _)

pub is_in_window-requires : goal.is_in_window-requires
is_in_window-requires c = window_of _ _ c.requires (omega arith)

pub place_in-requires : goal.place_in-requires
place_in-requires c = window_of _ _ c.requires (omega arith)

pub returns-then-is_in_window : goal.returns-then-is_in_window
returns-then-is_in_window c =
    let h = yes c.is_in_window.ensures c.if-is_in_window.true in
    place_out _ _ _ h (stored_all _ _ ∙ sym (some_out _ _ c.loop-p.p (omega arith) h)) c.place_in.ensures

pub loop-p-preserved : goal.loop-p-preserved
loop-p-preserved c =
    (omega arith, some_more _ _ c.loop-p.invariant.1 (no c.is_in_window.ensures c.if-is_in_window.false))

pub returns : goal.returns
returns c =
    let l = c.loop-p in
    stored_all _ _ ∙ sym (some_in _ _ l.p l.invariant.0 (omega arith) l.invariant.1)
