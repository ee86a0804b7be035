use Rattle.index.proofs.Flags.{yes, no}
use native.Mathlib.Omega.{arith}
use mathlib.Core.Path.{refl}
use Rattle.stores.proofs.ApartLaws.{none_apart, none_seen, all_out, all_in}
use Rattle.stores.proofs.valid.all_apart.Goals as goal

pub loop-w-init : goal.loop-w-init
loop-w-init c = (omega arith, none_apart _ _, none_seen _ _ _ refl)

pub returns-then-not-window_apart : goal.returns-then-not-window_apart
returns-then-not-window_apart c =
    all_out _ _ c.loop-w.w (omega arith) (no c.window_apart.ensures.0 c.if-not-window_apart.true)

pub loop-w-preserved : goal.loop-w-preserved
loop-w-preserved c = (
  omega arith,
  yes c.window_apart.ensures.0 c.if-not-window_apart.false,
  c.window_apart.ensures.1 c.if-not-window_apart.false,
)

pub returns : goal.returns
returns c =
    let l = c.loop-w in
    all_in _ _ l.w l.invariant.0 (omega arith) l.invariant.1
