-- Runs of cells: what every region of a table in the old form is made of.
-- Generic in place, width and count; nothing here knows the router.
use Rattle.std.specs.Prelude.{ℕ, ◌+◌, ◌*◌, List, [], ◌∷◌, ◌++◌, get_or}
use Rattle.layout.specs.Rows.{tab}

-- the w cells from `at` on
unfoldable pub span : List ℕ → ℕ → ℕ → List ℕ
span cells at w = tab w (λ k. get_or cells (at + k) 0)

-- the n records of w cells each from o on
unfoldable pub rows : List ℕ → ℕ → ℕ → ℕ → List (List ℕ)
rows cells o w n = tab n (λ i. span cells (o + i * w) w)

-- the cells of each element, one after the other
unfoldable pub joins : {A : Type 0} → (A → List ℕ) → List A → List ℕ
joins f [] = []
joins f (x ∷ xs) = f x ++ joins f xs
