-- Numbers whose text is known, by computation.
-- Assumes nothing.
use mathlib.Core.Path.{◌≡◌, refl}
use mathlib.Core.List.{[], ◌∷◌}
use lib.IntN.{negsuc}
use Rattle.text.specs.Text.{digits, decimal, signed_text}

zero : decimal 0 ≡ 48 ∷ []
unfolding decimal digits
zero = refl

ten : decimal 10 ≡ 49 ∷ 48 ∷ []
unfolding decimal digits
ten = refl

-- 18446744073709551615
largest :
    decimal 18446744073709551615
    ≡ 49 ∷ 56 ∷ 52 ∷ 52 ∷ 54 ∷ 55 ∷ 52 ∷ 52 ∷ 48 ∷ 55 ∷ 51 ∷ 55 ∷ 48 ∷ 57 ∷ 53 ∷ 53 ∷ 49 ∷ 54 ∷ 49 ∷ 53 ∷ []
unfolding decimal digits
largest = refl

minus_one : signed_text (negsuc 0) ≡ 45 ∷ 49 ∷ []
unfolding signed_text decimal digits
minus_one = refl

-- -10000000000
minus_ten_thousand_million : signed_text (negsuc 9999999999) ≡ 45 ∷ 49 ∷ 48 ∷ 48 ∷ 48 ∷ 48 ∷ 48 ∷ 48 ∷ 48 ∷ 48 ∷ 48 ∷ 48 ∷ []
unfolding signed_text decimal digits
minus_ten_thousand_million = refl
