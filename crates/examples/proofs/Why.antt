-- The worked score, by computation.
-- Assumes nothing.
use mathlib.Core.Path.{refl}
use Rattle.score.specs.Formula.{bounded, why_of}
use Rattle.examples.specs.Why.{told, Told}

pub why_told : Told
unfolding told why_of bounded
why_told = record { topics = refl; capped = refl; p5 = refl; p6 = refl; p7 = refl; score = refl }
