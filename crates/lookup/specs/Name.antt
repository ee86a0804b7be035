-- Protocol names (01: "protocol name exactly /meshsub/1.0.0 or /meshsub/1.1.0"; 02, order 6: "Accept /meshsub/1.2.0"; 01's answer 6:
-- "protocol name not known").
use Rattle.std.specs.Prelude.{Option, Some, None}
use Rattle.std.specs.Prelude.{ℕ, Bool, ◌&&◌, cond, List, [], ◌∷◌, length, get_or, eqb}
use Rattle.index.specs.Index.{every}

-- the bytes of /meshsub/1.m.0, with m the byte of a digit
unfoldable pub meshsub : ℕ → List ℕ
meshsub m = 47 ∷ 109 ∷ 101 ∷ 115 ∷ 104 ∷ 115 ∷ 117 ∷ 98 ∷ 47 ∷ 49 ∷ 46 ∷ m ∷ 46 ∷ 48 ∷ []

-- two lists of bytes are the same: their lengths are, and the bytes at each place
abbrev pub same_at : List ℕ → List ℕ → ℕ → Bool
same_at a b k = eqb (get_or a k 0) (get_or b k 0)

unfoldable pub same_bytes : List ℕ → List ℕ → Bool
same_bytes a b = eqb (length a) (length b) && every (length a) (same_at a b)

-- /meshsub/1.0.0 is version 0, /meshsub/1.1.0 is version 1, /meshsub/1.2.0 is version 2
unfoldable pub version_of : List ℕ → Option ℕ
version_of name =
    cond (same_bytes name (meshsub 48)) (Some 0)
    (cond (same_bytes name (meshsub 49)) (Some 1) (cond (same_bytes name (meshsub 50)) (Some 2) None))
