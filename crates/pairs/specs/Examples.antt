-- "Keep the D_score best (ties in draw order)", worked by hand. Of five slots all but 2 are members; 1 has the highest score, and 0, 3 and
-- 4 have the same. Slot 2's score is as high as 1's, and it is no member.
use Rattle.std.specs.Prelude.{◌≡◌, Bool, true, false, List, [], ◌∷◌, ℕ, replicate}
use Rattle.sets.specs.Sets.{bests}
use Rattle.pairs.specs.Pairs.{by_pairs}

unfoldable pub scores : List ℕ
scores = 7 ∷ 9 ∷ 9 ∷ 7 ∷ 7 ∷ []

unfoldable pub members : List Bool
members = true ∷ true ∷ false ∷ true ∷ true ∷ []

-- the order in which they are drawn
unfoldable pub permutation : List ℕ
permutation = 3 ∷ 4 ∷ 1 ∷ 2 ∷ 0 ∷ []

pub record Examples : Type 0 where
  pub none : by_pairs 5 scores members permutation 0 ≡ replicate 5 false
  -- with D_score 2, 1 is kept, and of the tie 3, which is drawn first; with 3 also 4
  pub two : by_pairs 5 scores members permutation 2 ≡ false ∷ true ∷ false ∷ true ∷ false ∷ []
  pub three : by_pairs 5 scores members permutation 3 ≡ false ∷ true ∷ false ∷ true ∷ true ∷ []
  -- there are four members
  pub all : by_pairs 5 scores members permutation 5 ≡ members
  -- picked one after the other
  pub picked : bests 5 scores members permutation 2 (replicate 5 false) ≡ false ∷ true ∷ false ∷ true ∷ false ∷ []
