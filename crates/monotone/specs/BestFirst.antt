-- Why the swaps of step 3 take the drawn before the best (02, order 14: "first swaps out inbound keepers that were drawn"): with the best
-- first, a better score would lose the place. Four members in the order 0, 1, 2, 3, of which 3 alone is outbound; D 2, D_score 1, D_out 1.
use Rattle.std.specs.Prelude.{ℕ, ◌≡◌, Bool, true, false, cond, List, [], ◌∷◌, set, replicate, ltb}
use Rattle.sets.specs.Sets.{at, size, both, except, ascending, fill, bests, bottom, first_of, last_of}

-- who would go, of the inbound keepers p whose best are b: the lowest of the best, and a drawn one only after them
unfoldable pub best_goer : ℕ → List ℕ → List ℕ → List Bool → List Bool → ℕ
best_goer n scores order b p =
    cond (ltb 0 (size (both p b))) (bottom n scores (both p b) order n) (last_of p order n)

unfoldable pub all : List Bool
all = replicate 4 true

unfoldable pub outbound : List Bool
outbound = false ∷ false ∷ false ∷ true ∷ []

-- the best one, the keepers, and what one swap leaves of them
unfoldable pub best : List ℕ → List Bool
best scores = bests 4 scores all (ascending 0 4) 1 (replicate 4 false)

unfoldable pub kept : List ℕ → List Bool
kept scores = fill all 1 (ascending 0 4) (best scores)

unfoldable pub left : List ℕ → List Bool
left scores =
    set
    (set (kept scores) (best_goer 4 scores (ascending 0 4) (best scores) (except (kept scores) outbound)) false)
    (first_of (except outbound (kept scores)) (ascending 0 4) 4)
    true

-- slot 1 stays with a score of 0, when 0 is the best and goes, and goes itself with a score of 2
pub record BestFirstLoses : Type 0 where
  pub stays : at (left (1 ∷ 0 ∷ 0 ∷ 0 ∷ [])) 1 ≡ true
  pub goes : at (left (1 ∷ 2 ∷ 0 ∷ 0 ∷ [])) 1 ≡ false
