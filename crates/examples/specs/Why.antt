-- A score with its parts (02, order 5): a topic total of 8,000,000 under a cap of 5 thousandths of a point, w5 1 with P5 3, w6 -1 with a
-- surplus of 2 in its one group, and w7 -10 with P7 1000.
use Rattle.std.specs.Prelude.{◌≡◌, pos, negsuc}
use Rattle.score.specs.declared.Why.{Why}
use Rattle.score.specs.Parts.{square}
use Rattle.score.specs.Formula.{why_of}

unfoldable pub told : Why
told = why_of 5 (pos 8000000) (pos 1) (pos 3) (negsuc 0) (square 2) (negsuc 9) 1000

-- "the topic total before its cap, the total after it, and the three general parts, the last four's sum being the score"
pub record Told : Type 0 where
  pub topics : told.topics ≡ pos 8000000
  pub capped : told.capped ≡ pos 5000000
  pub p5 : told.p5 ≡ pos 3000
  pub p6 : told.p6 ≡ negsuc 3999999999
  pub p7 : told.p7 ≡ negsuc 9999999999
  pub score : told.score ≡ negsuc 13994996999
