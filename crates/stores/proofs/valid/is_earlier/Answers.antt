use native.Mathlib.Omega.{arith}
use mathlib.Core.Path.{ap, ◌∙◌}
use Rattle.index.proofs.Flags.{yes, no}
use Rattle.gossip.specs.Notes.{has}
use Rattle.stores.proofs.ApartLaws.{earlier_none, earlier_out, earlier_more, earlier_in}
use Rattle.stores.proofs.ChangeLaws.{window_in}
use Rattle.stores.proofs.ViewLaws.{window_front}
use Rattle.stores.proofs.valid.is_earlier.Goals as goal

pub loop-v-init : goal.loop-v-init
loop-v-init c = (omega arith, earlier_none _ _ _)

pub is_in_window-requires : goal.is_in_window-requires
is_in_window-requires c =
    let l = c.requires.1.0 in
    window_in _ _ _ c.requires.0 (omega arith)

pub returns-then-is_in_window : goal.returns-then-is_in_window
returns-then-is_in_window c =
    earlier_out _ _ _ c.loop-v.v _ _ (omega arith) (yes c.is_in_window.ensures c.if-is_in_window.true)

pub loop-v-preserved : goal.loop-v-preserved
loop-v-preserved c =
    (omega arith, earlier_more _ _ _ _ c.loop-v.invariant.1 (no c.is_in_window.ensures c.if-is_in_window.false))

pub overflow_add-end : goal.overflow_add-end
overflow_add-end c =
    omega (arith, c.requires.0.most c.args.w c.requires.1.0)

pub slice_bounds-is_in-end : goal.slice_bounds-is_in-end
slice_bounds-is_in-end c =
    omega (arith, c.requires.0.most c.args.w c.requires.1.0)

pub returns : goal.returns
returns c =
    let l = c.loop-v in
    c.is_in.ensures
    ∙ ap (has _) (window_front _ (window_in _ _ _ c.requires.0 c.requires.1.0) c.requires.1.1 c.start-at.ensures)
    ∙ earlier_in _ _ _ l.v _ _ l.invariant.0 (omega arith) l.invariant.1
