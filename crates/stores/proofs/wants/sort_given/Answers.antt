-- `stores::wants::sort_given`: the copy is the numbers, and is sorted. Assumes nothing.
use mathlib.Core.Path.{ap, ◌∙◌}
use Rattle.sorting.specs.Sorting.{sorted}
use Rattle.stores.proofs.wants.sort_given.Goals as goal

pub returns : goal.returns
returns c = c.sort.ensures ∙ ap sorted c.copy_from_slice.ensures.after
