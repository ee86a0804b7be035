-- Lists made by index, and a run of cells written: what the regions of a table are made of. Nothing here knows the router.
use Rattle.std.specs.Prelude.{ℕ, zero, suc, List, [], ◌∷◌, length}
use Rattle.std.proofs.Math.Seq.{paste}

-- f 0, f 1, .. up to n of them
abbrev pub tab : {A : Type 0} → ℕ → (ℕ → A) → List A
tab zero f = []
tab (suc n) f = f zero ∷ tab n (λ k. f (suc k))

-- the cells with those from `at` on replaced by vs
unfoldable pub put : List ℕ → ℕ → List ℕ → List ℕ
put cells at vs = paste cells at vs (length vs)
