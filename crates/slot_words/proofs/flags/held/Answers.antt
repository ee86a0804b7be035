use Prim.Native.Nat.{max}
use mathlib.Core.Path.{ap₂, ◌∙◌}
use Rattle.slot_words.proofs.flags.held.Goals as goal

pub returns : goal.returns
returns c = (
  c.union.ensures.0,
  λ s h. c.union.ensures.1 s h ∙ ap₂ max (c.load_connected.ensures.1 s h)
      (c.load_retained.ensures.1 s h),
)
