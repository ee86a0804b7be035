use mathlib.Core.Path.{refl}
use Rattle.slot_words.proofs.FlagLaws.{free_told}
use Rattle.slot_words.proofs.flags.free.Goals as goal

pub returns : goal.returns
returns c = (
  refl,
  free_told _ _ c.held-h.ensures.1 _ _ _ _ c.without.ensures
      c.without-2.ensures c.without-3.ensures
      c.without-4.ensures,
)
