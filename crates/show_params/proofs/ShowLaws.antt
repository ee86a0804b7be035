-- Laws of the printed text: how its parts are stored one after the other.
-- Assumes nothing.
use Rattle.std.proofs.Common.{Result}
use Rattle.params_bytes.specs.declared.ReadError.{ReadError}
use Prim.Native.Nat.{ℕ}
use mathlib.Core.Path.{◌≡◌, refl}
use mathlib.Core.List.{List, []}
use native.Mathlib.Omega.{arith}
use Rattle.text.specs.Text.{Stored}
use Rattle.text.proofs.TextLaws.{stored_then}
use Rattle.param_text.specs.Lines.{head_text}
use Rattle.params_bytes.specs.Read.{Reading, read_of, verdict_number, verdict_value}
use Rattle.show_params.specs.Show.{rest_text, shown_text}

-- ---- the whole text, by the verdict of the reading
module _ (s : List ℕ) (r : Reading) (v : Result ℕ ReadError) (is : r ≡ read_of s) (told : r.verdict ≡ v) where
  pub shown_stored :
      (b₀ b₁ b₂ : List ℕ) (p₁ p₂ : ℕ) →
      Stored b₀ 0 (head_text (verdict_number v) (verdict_value v)) p₁ b₁ →
      Stored b₁ p₁ (rest_text v r.params.numbers) p₂ b₂ →
      Stored b₀ 0 (shown_text (read_of s)) p₂ b₂
  unfolding shown_text
  shown_stored b₀ b₁ b₂ p₁ p₂ h t =
      rw
      (← is, told)
      (stored_then b₀ 0 p₁ (head_text (verdict_number v) (verdict_value v)) b₁ p₂ (rest_text v r.params.numbers) b₂ h t)

  -- a refusal has no further line
  pub shown_refused :
      rest_text v r.params.numbers ≡ [] →
      (b₀ b₁ : List ℕ) (p : ℕ) →
      Stored b₀ 0 (head_text (verdict_number v) (verdict_value v)) p b₁ →
      Stored b₀ 0 (shown_text (read_of s)) p b₁
  shown_refused e b₀ b₁ p h = shown_stored b₀ b₁ b₁ p p h (rw e (omega arith, refl))
