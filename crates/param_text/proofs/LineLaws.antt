-- Laws of the text: how long a line is, and how its parts are stored one after the other.
-- Assumes nothing.
use Rattle.index.proofs.Kit.{ℕ, ◌+◌, ◌≤◌, ◌≡◌, refl, arith, gather}
use mathlib.Core.List.{List, [], ◌∷◌, ◌++◌}
use lib.ListN.{length}
use lib.IntN.{ℤ}
use lib.Signed.{nat_abs-le}
use mir.Syntax.{w64}
use mir.Val.{SFits, to_z, of_z}
use mir.Facts.{to_z-of_z}
use Rattle.records.specs.Records.{param_count}
use Rattle.index.proofs.Index.{gather_none, gather_more}
use Rattle.text.specs.Text.{decimal, signed_text, Stored}
use Rattle.text.proofs.TextLaws.{signed_length, stored_then}
use Rattle.param_text.specs.Lines.{head_text, line_text, line_at, numbers_text}

-- the four stores of the first line
pub head_stored :
    (n v : ℕ) (b₀ b₁ b₂ b₃ b₄ : List ℕ) (p₁ p₂ p₃ p₄ : ℕ) → Stored b₀ 0 (decimal n) p₁ b₁ → Stored b₁ p₁ (32 ∷ []) p₂ b₂ →
    Stored b₂ p₂ (decimal v) p₃ b₃ → Stored b₃ p₃ (10 ∷ []) p₄ b₄ → Stored b₀ 0 (head_text n v) p₄ b₄
unfolding head_text
head_stored n v b₀ b₁ b₂ b₃ b₄ p₁ p₂ p₃ p₄ s₁ s₂ s₃ s₄ =
    let t₂ = stored_then b₀ 0 p₁ (decimal n) b₁ p₂ (32 ∷ []) b₂ s₁ s₂ in
    let t₃ = stored_then b₀ 0 p₂ (decimal n ++ (32 ∷ [])) b₂ p₃ (decimal v) b₃ t₂ s₃ in
    stored_then b₀ 0 p₃ ((decimal n ++ (32 ∷ [])) ++ decimal v) b₃ p₄ (10 ∷ []) b₄ t₃ s₄

-- a number of 64 bits takes at most 21 bytes
pub fits_length : (z : ℤ) → SFits w64 z → length (signed_text z) ≤ 21
fits_length z f = signed_length z (omega (arith, nat_abs-le z f.sfits))

-- the two stores of a number's line; the number is read back from its bits
pub line_stored :
    (z : ℤ) (at : ℕ) (b₀ b₁ b₂ : List ℕ) (p₁ p₂ : ℕ) → SFits w64 z → Stored b₀ at (signed_text (to_z w64 (of_z w64 z))) p₁ b₁ →
    Stored b₁ p₁ (10 ∷ []) p₂ b₂ → Stored b₀ at (line_text z) p₂ b₂ × (p₂ ≤ at + 22)
unfolding line_text
line_stored z at b₀ b₁ b₂ p₁ p₂ f s t =
    let u : Stored b₀ at (signed_text z) p₁ b₁ = rw (to_z-of_z f) at s in
    (stored_then b₀ at p₁ (signed_text z) b₁ p₂ (10 ∷ []) b₂ u t, omega (arith, fits_length z f, u.0, t.0))

-- ---- the first i of lines that f gives
module _ (f : ℕ → List ℕ) where
  pub lines_none : (at : ℕ) (b : List ℕ) → Stored b at (gather 0 f) at b
  lines_none at b = rw (gather_none f) (omega arith, refl)

  pub lines_more :
      (i at : ℕ) (b₀ b₁ b₂ : List ℕ) (p₁ p₂ : ℕ) → Stored b₀ at (gather i f) p₁ b₁ → Stored b₁ p₁ (f i) p₂ b₂ →
      Stored b₀ at (gather (i + 1) f) p₂ b₂
  lines_more i at b₀ b₁ b₂ p₁ p₂ s t = rw (gather_more f i) (stored_then b₀ at p₁ (gather i f) b₁ p₂ (f i) b₂ s t)

pub lines_all :
    (xs : List ℤ) (i at : ℕ) (b₀ b₁ : List ℕ) (p : ℕ) → i ≤ param_count → param_count ≤ i → Stored b₀ at (gather i (line_at xs)) p b₁ →
    Stored b₀ at (numbers_text xs) p b₁
unfolding numbers_text
lines_all xs i at b₀ b₁ p l h s = let e : i ≡ param_count = omega arith in rw e at s
