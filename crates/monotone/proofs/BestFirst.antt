-- The counterexample, by computation.
-- Assumes nothing.
use mathlib.Core.Path.{refl}
use Rattle.sets.specs.Sets.{size, both, except, ascending, fill, top, bests, bottom, first_of, last_of}
use Rattle.monotone.specs.BestFirst.{best_goer, all, outbound, best, kept, left, BestFirstLoses}

pub best_first_loses : BestFirstLoses
unfolding size both except ascending fill top bests bottom first_of last_of best_goer all outbound best kept left
best_first_loses = record { stays = refl; goes = refl }
