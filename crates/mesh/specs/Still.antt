-- When the steps after the first change nothing: no rule of 01, but what follows from the five steps (proofs/StillLaws.antt).
use Rattle.std.specs.Prelude.{ℕ, Bool, not, ◌&&◌, List, ltb, leb}
use Rattle.sets.specs.Sets.{size, both}
use Rattle.mesh.specs.Maintenance.{Meshes, median}
use Rattle.mesh.specs.declared.Degrees.{Degrees}

-- step 5's test
unfoldable pub is_low : ℕ → Bool → List ℕ → List Bool → Bool
is_low threshold ask scores m = ask && leb 2 (size m) && ltb (median m scores) threshold

-- from D_lo to D_hi members, D_out of them outbound, and step 5's test fails
unfoldable pub is_still : Degrees → List Bool → Bool → List ℕ → List Bool → Bool
is_still t outbound ask scores m =
    (leb t.lo (size m) && (leb (size m) t.hi && leb t.out (size (both m outbound))))
    && not (is_low t.threshold ask scores m)

-- the same mesh after each step
abbrev pub still_of : List Bool → Meshes
still_of m = record { first = m; second = m; third = m; fourth = m; fifth = m }
