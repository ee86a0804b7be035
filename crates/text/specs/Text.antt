-- Numbers as ASCII text: a digit d is the byte 48 + d, the sign of a negative number is 45.
-- What is printed is fixed here alone: the functions of src/lib.rt store these bytes.
use Rattle.std.specs.Prelude.{ℕ, zero, suc, ◌+◌, ◌/◌, ◌%◌, cond, List, [], ◌∷◌, ◌++◌, ◌≡◌, ltb, length, ℤ, pos, negsuc}
use Rattle.std.proofs.lemmas.List.Edits.{sets}

-- the digits of n, the most significant first; the first argument bounds how many stand before the last (n itself is enough)
unfoldable pub digits : ℕ → ℕ → List ℕ
digits zero n = (48 + n) ∷ []
digits (suc k) n =
    let more : List ℕ = digits k (n / 10) ++ ((48 + n % 10) ∷ []) in
    cond (ltb n 10) ((48 + n) ∷ []) more

-- n in base ten, with no leading zero
unfoldable pub decimal : ℕ → List ℕ
decimal n = digits n n

-- the same of a number with a sign; negsuc m is -1 - m
unfoldable pub signed_text : ℤ → List ℕ
signed_text (pos n) = decimal n
signed_text (negsuc m) = 45 ∷ decimal (suc m)

-- `bytes` stand in the buffer from `at` on, all else is as it was, and `next` is the place after them
abbrev pub Stored : List ℕ → ℕ → List ℕ → ℕ → List ℕ → Type 0
Stored buf at bytes next out = (next ≡ at + length bytes) × (out ≡ sets buf at bytes)
