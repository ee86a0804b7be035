-- The worked examples, by computation.
-- Assumes nothing.
use mathlib.Core.Path.{refl}
use Rattle.index.specs.Index.{count, gather}
use Rattle.sets.specs.Sets.{by_slot, except, top, bests}
use Rattle.pairs.specs.Pairs.{earlier, by_pairs}
use Rattle.pairs.specs.Examples.{scores, members, permutation, Examples}

pub examples : Examples
unfolding count gather by_slot except top bests earlier by_pairs scores members permutation
examples = record { none = refl; two = refl; three = refl; all = refl; picked = refl }
