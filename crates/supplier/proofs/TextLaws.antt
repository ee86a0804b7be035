-- Laws of entries in text: how long they are, and how their parts are stored one after the other.
-- Assumes nothing.
use Rattle.index.proofs.Kit.{ℕ, ◌+◌, ◌*◌, ◌<◌, ◌≤◌, ◌≡◌, refl, ap, arith, gather}
use Prim.Native.Nat.{◌/◌, ◌%◌}
use mathlib.Core.List.{List, [], ◌∷◌, ◌++◌}
use native.Mathlib.Numerals.{add-one}
use lib.ListN.{length, get_or, take, drop, length-drop}
use lib.Seq.{take-suc, get_or-drop, length-take-le}
use Rattle.records.specs.Records.{param_count}
use Rattle.text.specs.Text.{decimal, Stored}
use Rattle.text.proofs.TextLaws.{length_le, stored_then}
use Rattle.supplier_entry.proofs.ByteLaws.{take_one}
use Rattle.supplier_params.specs.Forms.{supplier_bytes}
use Rattle.supplier_params.specs.Import.{entry_at}
use Rattle.supplier.specs.Output.{hex_digit, hex_text, entry_text, entry_text_at, entries_text, done_text}

-- ---- bytes in base 16
pub hex_append : (a b : List ℕ) → hex_text (a ++ b) ≡ hex_text a ++ hex_text b
unfolding hex_text
hex_append [] b = refl
hex_append (x ∷ a) b = ap (λ (l : List ℕ). hex_digit (x / 16) ∷ hex_digit (x % 16) ∷ l) (hex_append a b)

pub hex_length : (s : List ℕ) → length (hex_text s) ≡ 2 * length s
unfolding hex_text
hex_length [] = refl
hex_length (x ∷ s) = omega (arith, hex_length s)

pub hex_stored :
    (b high low : ℕ) (at : ℕ) (b₀ b₁ b₂ : List ℕ) (p₁ p₂ : ℕ) → high ≡ hex_digit (b / 16) → low ≡ hex_digit (b % 16) →
    Stored b₀ at (high ∷ []) p₁ b₁ → Stored b₁ p₁ (low ∷ []) p₂ b₂ → Stored b₀ at (hex_text (b ∷ [])) p₂ b₂
unfolding hex_text
hex_stored b high low at b₀ b₁ b₂ p₁ p₂ h l s t = rw (← h, ← l) (stored_then b₀ at p₁ (high ∷ []) b₁ p₂ (low ∷ []) b₂ s t)

-- ---- the first k of eight bytes
pub eight_none : (s : List ℕ) (from at : ℕ) (b : List ℕ) → Stored b at (hex_text (take 0 (drop from s))) at b
unfolding hex_text
eight_none s from at b = (omega arith, refl)

pub eight_more :
    (s : List ℕ) (from k at : ℕ) (b₀ b₁ b₂ : List ℕ) (p₁ p₂ : ℕ) → from + 8 ≤ length s → k < 8 →
    Stored b₀ at (hex_text (take k (drop from s))) p₁ b₁ → Stored b₁ p₁ (hex_text (get_or s (from + k) 0 ∷ [])) p₂ b₂ →
    Stored b₀ at (hex_text (take (k + 1) (drop from s))) p₂ b₂
eight_more s from k at b₀ b₁ b₂ p₁ p₂ h l a b =
    rw (
      add-one k,
      take-suc (drop from s) k 0 (omega (arith, length-drop from s)),
      get_or-drop from s k 0,
      hex_append (take k (drop from s)) (get_or s (from + k) 0 ∷ []),
    )
    (stored_then b₀ at p₁ (hex_text (take k (drop from s))) b₁ p₂ (hex_text (get_or s (from + k) 0 ∷ [])) b₂ a b)

pub eight_all :
    (s : List ℕ) (from k at : ℕ) (b₀ b₁ : List ℕ) (p : ℕ) → from + 8 ≤ length s → k ≤ 8 → 8 ≤ k →
    Stored b₀ at (hex_text (take k (drop from s))) p b₁ → Stored b₀ at (hex_text (take 8 (drop from s))) p b₁ × (p ≡ at + 16)
eight_all s from k at b₀ b₁ p h l g a =
    let e : k ≡ 8 = omega arith in
    let a' : Stored b₀ at (hex_text (take 8 (drop from s))) p b₁ = rw e at a in
    (a', omega (arith, a'.0, hex_length (take 8 (drop from s)), length-take-le 8 (drop from s) (omega (arith, length-drop from s))))

-- ---- the line of an entry
pub kind_length : (kind : ℕ) → kind < 256 → length (decimal kind) ≤ 3
kind_length kind h = length_le 2 kind (omega arith)

pub entry_stored :
    (s : List ℕ) (i kind at : ℕ) (b₀ b₁ b₂ b₃ b₄ : List ℕ) (p₁ p₂ p₃ p₄ : ℕ) → length s ≡ supplier_bytes → i < param_count →
    kind ≡ get_or s (9 * i) 0 → kind < 256 → Stored b₀ at (decimal kind) p₁ b₁ → Stored b₁ p₁ (32 ∷ []) p₂ b₂ →
    Stored b₂ p₂ (hex_text (take 8 (drop (9 * i + 1) s))) p₃ b₃ → p₃ ≡ p₂ + 16 → Stored b₃ p₃ (10 ∷ []) p₄ b₄ →
    Stored b₀ at (entry_text (entry_at s i)) p₄ b₄ × (p₄ ≤ at + 21)
unfolding entry_at
entry_stored s i kind at b₀ b₁ b₂ b₃ b₄ p₁ p₂ p₃ p₄ l h k small s₁ s₂ s₃ q s₄ =
    let bytes = take 8 (drop (9 * i + 1) s) in
    let t₂ = stored_then b₀ at p₁ (decimal kind) b₁ p₂ (32 ∷ []) b₂ s₁ s₂ in
    let t₃ = stored_then b₀ at p₂ (decimal kind ++ (32 ∷ [])) b₂ p₃ (hex_text bytes) b₃ t₂ s₃ in
    let t₄ = stored_then b₀ at p₃ ((decimal kind ++ (32 ∷ [])) ++ hex_text bytes) b₃ p₄ (10 ∷ []) b₄ t₃ s₄ in
    (rw (take_one 8 s (9 * i) (omega arith), ← k) t₄, omega (arith, kind_length kind small, s₁.0, s₂.0, s₄.0))

-- ---- the lines of all entries
pub entries_all :
    (s : List ℕ) (i at : ℕ) (b₀ b₁ : List ℕ) (p : ℕ) → i ≤ param_count → param_count ≤ i → Stored b₀ at (gather i (entry_text_at s)) p b₁ →
    Stored b₀ at (entries_text s) p b₁
unfolding entries_text
entries_all s i at b₀ b₁ p l h a = let e : i ≡ param_count = omega arith in rw e at a

-- ---- the line `0`
pub done_stored :
    (b₀ b₁ b₂ : List ℕ) (p₁ p₂ : ℕ) → Stored b₀ 0 (48 ∷ []) p₁ b₁ → Stored b₁ p₁ (10 ∷ []) p₂ b₂ → Stored b₀ 0 done_text p₂ b₂ × (p₂ ≡ 2)
done_stored b₀ b₁ b₂ p₁ p₂ s t = (stored_then b₀ 0 p₁ (48 ∷ []) b₁ p₂ (10 ∷ []) b₂ s t, omega (arith, s.0, t.0))
