-- Unsigned numbers as bytes (01, "In bytes"): "groups of seven bits, low first, top bit set on all but the last. Only the shortest form is
-- read." Nothing here depends on a width: a reader accepts what `decode` gives up to its own largest number (`up_to`).
use Rattle.std.specs.Prelude.{Option, Some, None}
use Rattle.std.specs.Prelude.{ℕ, zero, suc, ◌+◌, ◌-◌, ◌*◌, ◌/◌, ◌%◌, cond, List, [], ◌∷◌, ltb, leb, eqb, length, drop}
use Rattle.std.proofs.lemmas.List.Edits.{sets}

-- the groups of n; the first argument bounds how many follow the first (n itself is enough)
unfoldable pub groups : ℕ → ℕ → List ℕ
groups zero n = n ∷ []
groups (suc k) n = let more : List ℕ = (n % 128 + 128) ∷ groups k (n / 128) in cond (ltb n 128) (n ∷ []) more

unfoldable pub encode : ℕ → List ℕ
encode n = groups n n

-- what stands at the front of a list: a number and how many bytes it takes, or no number in its shortest form
pub data Got : Type 0 where
  got : ℕ → ℕ → Got
  none : Got

-- a byte with its top bit set, before what the bytes after it say: a rest that is 0 is not the shortest form ("80 00 is malformed")
abbrev pub before : ℕ → Got → Got
before b none = none
before b (got zero n) = none
before b (got (suc v) n) = got (suc v * 128 + (b - 128)) (suc n)

unfoldable pub decode : List ℕ → Got
decode [] = none
decode (b ∷ s) = cond (ltb b 128) (got b 1) (before b (decode s))

-- a number above the largest one is no number ("above 64 bits")
abbrev pub up_to : ℕ → Got → Got
up_to top none = none
up_to top (got v n) = cond (leb v top) (got v n) none

abbrev pub as_read : ℕ → Got → Option (ℕ × ℕ)
as_read at none = None
as_read at (got v n) = Some (v, at + n)

-- what a reader of numbers up to `top` answers at a place
unfoldable pub read_at : ℕ → List ℕ → ℕ → Option (ℕ × ℕ)
read_at top s at = as_read at (up_to top (decode (drop at s)))

-- the answer at a byte b with its top bit set, from the answer at the next place for numbers 128 times smaller
abbrev pub after_more : ℕ → ℕ → Option (ℕ × ℕ) → Option (ℕ × ℕ)
after_more top b None = None
after_more top b (Some (v, next)) =
    cond (eqb v 0) None (cond (leb (v * 128 + (b - 128)) top) (Some (v * 128 + (b - 128), next)) None)

-- the answer at a byte b with its top bit clear
abbrev pub last_group : ℕ → ℕ → ℕ → Option (ℕ × ℕ)
last_group top b next = cond (leb b top) (Some (b, next)) None

-- what came of writing, and the buffer's bytes after it
pub record Stored : Type 0 where
  pub answer : Option ℕ
  pub bytes : List ℕ

-- the groups of n written from `at` on where they fit; else the buffer as it was
unfoldable pub put_of : List ℕ → ℕ → ℕ → Stored
put_of buf at n =
    cond
    (leb (at + length (encode n)) (length buf))
    (record { answer = Some (at + length (encode n)); bytes = sets buf at (encode n) })
    (record { answer = None; bytes = buf })
