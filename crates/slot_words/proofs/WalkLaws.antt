-- A walk over the set bits of a word, the lowest first: what is left to look at, and what its end says.
-- Assumes nothing.
use Prim.Native.Nat.{ℕ, ◌+◌, ◌-◌, ◌/◌, ◌%◌, ◌^◌, ◌≤◌, ◌<◌}
use native.Mathlib.Nat.{not-suc-le-zero, le_of_suc-le-suc, zero-div}
use native.Mathlib.Omega.{arith}
use mathlib.Core.Path.{◌≡◌, refl, sym, ap, ◌∙◌, subst}
use mathlib.Core.Logic.{◌⊎◌, inl, inr}
use mathlib.Core.Bool.{Bool, true, false}
use mathlib.Core.List.{List, [], ◌∷◌}
use lib.ListN.{length, get_or}
use lib.Seq.{get_or-set_same, get_or-set_other}
use lib.Count.{count_trailing_zeros}
use lib.Bits.{bit_and, and_le_r}
use borrow.Author.Tests.{eqb-true, eq-eqb}
use Rattle.index.proofs.Flags.{by_order}
use Rattle.words.specs.Words.{bits, lowest}
use Rattle.words.proofs.BitLaws.{bits_length, bits_at, bits_lowest, bits_less, lowest_lt}
use Rattle.words.proofs.SlotWalk.{lowest_below}

-- a bit as a flag
flag_of : (w j : ℕ) → j < 64 → w / 2 ^ j % 2 ≡ 1 → get_or (bits 64 w) j false ≡ true
flag_of w j l e = bits_at j 64 w l ∙ eq-eqb (w / 2 ^ j % 2) 1 e

bit_of : (w j : ℕ) → j < 64 → get_or (bits 64 w) j false ≡ true → w / 2 ^ j % 2 ≡ 1
bit_of w j l e = eqb-true (w / 2 ^ j % 2) 1 (sym (bits_at j 64 w l) ∙ e)

at_lowest : (l : List Bool) → lowest l < length l → get_or l (lowest l) false ≡ true
unfolding lowest
at_lowest [] h = absurd (not-suc-le-zero h)
at_lowest (true ∷ l) h = refl
at_lowest (false ∷ l) h = at_lowest l (le_of_suc-le-suc h)

never : false ≡ true → ⊥
never e = let z : ◌≡◌ {A = ℕ} 0 1 = cc in omega arith

module _ (b : ℕ) (pos : 0 < b) (small : b < 2 ^ 64) where
  abbrev t : ℕ
  t = count_trailing_zeros 64 b

  pub lowest_low : t < 64
  lowest_low = rw (bits_lowest 64 b) (lowest_lt 64 b pos small)

  lowest_set : b / 2 ^ t % 2 ≡ 1
  lowest_set =
      let h : lowest (bits 64 b) < length (bits 64 b) = rw (bits_length 64 b) (lowest_lt 64 b pos small) in
      bit_of b t lowest_low (rw (bits_lowest 64 b) (at_lowest (bits 64 b) h))

  pub falls : bit_and b (b - 1) < b
  falls = let h = and_le_r b (b - 1) in omega arith

  less : bits 64 (bit_and b (b - 1)) ≡ lib.ListN.set (bits 64 b) t false
  less = bits_less 64 b pos small ∙ ap (λ (n : ℕ). lib.ListN.set (bits 64 b) n false) (sym (bits_lowest 64 b))

  kept : (j : ℕ) → j < 64 → (j ≡ t → ⊥) → b / 2 ^ j % 2 ≡ 1 → bit_and b (b - 1) / 2 ^ j % 2 ≡ 1
  kept j l n e =
      bit_of (bit_and b (b - 1)) j l
      (ap (λ (m : List Bool). get_or m j false) less ∙ get_or-set_other (bits 64 b) t j false false n ∙ flag_of b j l e)

  left : (j : ℕ) → j < 64 → bit_and b (b - 1) / 2 ^ j % 2 ≡ 1 → b / 2 ^ j % 2 ≡ 1
  left j l e =
      let f : get_or (lib.ListN.set (bits 64 b) t false) j false ≡ true =
      sym (ap (λ (m : List Bool). get_or m j false) less) ∙ flag_of (bit_and b (b - 1)) j l e in
      let k : t < length (bits 64 b) = rw (bits_length 64 b) lowest_low in
      let n : j ≡ t → ⊥ = λ q.
      never
      (sym (get_or-set_same (bits 64 b) t false false k)
      ∙ ap (λ (i : ℕ). get_or (lib.ListN.set (bits 64 b) t false) i false) (sym q)
      ∙ f) in
      bit_of b j l (sym (get_or-set_other (bits 64 b) t j false false n) ∙ f)

  above : (j : ℕ) → j < 64 → b / 2 ^ j % 2 ≡ 1 → t ≤ j
  above j l e =
      by_order (t ≤ j) j t
      (λ (h : j < t).
      absurd (never (sym (lowest_below (bits 64 b) j (rw (bits_lowest 64 b) at h)) ∙ flag_of b j l e)))
      (λ h. h)

-- two numbers are the same or not
same_or : (s t : ℕ) → (s ≡ t) ⊎ (s ≡ t → ⊥)
same_or s t =
    by_order ((s ≡ t) ⊎ (s ≡ t → ⊥)) s t (λ l. inr (λ e. omega arith)) (λ l.
    by_order ((s ≡ t) ⊎ (s ≡ t → ⊥)) t s (λ k. inr (λ e. omega arith)) (λ k. inl (omega arith)))

-- P is what the walk finds out of each bit of w
module _ (P : ℕ → Type 0) (w : ℕ) where
  -- b is what is left of w
  pub record Walked (b : ℕ) : Type 0 where
    pub done : (j : ℕ) → j < 64 → w / 2 ^ j % 2 ≡ 1 → (b / 2 ^ j % 2 ≡ 1) ⊎ P j
    pub part : (j : ℕ) → j < 64 → b / 2 ^ j % 2 ≡ 1 → w / 2 ^ j % 2 ≡ 1
    pub small : b < 2 ^ 64

  pub walk_start : w < 2 ^ 64 → Walked w
  walk_start h = record { done = λ j l e. inl e; part = λ j l e. e; small = h }

  module _ (b : ℕ) (pos : 0 < b) (k : Walked b) where
    -- the bit that is looked at is one of w's
    pub walk_bit : w / 2 ^ count_trailing_zeros 64 b % 2 ≡ 1
    walk_bit = k.part (count_trailing_zeros 64 b) (lowest_low b pos k.small) (lowest_set b pos k.small)

    pub walk_more : P (count_trailing_zeros 64 b) → Walked (bit_and b (b - 1))
    walk_more ok =
        record {
          done = λ j l e. next j l (k.done j l e);
          part = λ j l e. k.part j l (left b pos k.small j l e);
          small = let f = falls b pos k.small in let s = k.small in omega arith;
        }
      where
        at :
            (j : ℕ) →
            j < 64 →
            (j ≡ count_trailing_zeros 64 b) ⊎ (j ≡ count_trailing_zeros 64 b → ⊥) →
            b / 2 ^ j % 2 ≡ 1 →
            (bit_and b (b - 1) / 2 ^ j % 2 ≡ 1) ⊎ P j
        at j l (inl e) h = inr (subst P (sym e) ok)
        at j l (inr n) h = inl (kept b pos k.small j l n h)

        next : (j : ℕ) → j < 64 → (b / 2 ^ j % 2 ≡ 1) ⊎ P j → (bit_and b (b - 1) / 2 ^ j % 2 ≡ 1) ⊎ P j
        next j l (inl h) = at j l (same_or j (count_trailing_zeros 64 b)) h
        next j l (inr h) = inr h

    -- a walk that stops early, where the rest needs no look
    pub walk_stop : ((j : ℕ) → count_trailing_zeros 64 b ≤ j → P j) → (j : ℕ) → j < 64 → w / 2 ^ j % 2 ≡ 1 → P j
    walk_stop f j l e = pick (k.done j l e)
      where
        pick : (b / 2 ^ j % 2 ≡ 1) ⊎ P j → P j
        pick (inl h) = f j (above b pos k.small j l h)
        pick (inr h) = h

  pub walk_end : (b : ℕ) → b ≡ 0 → Walked b → (j : ℕ) → j < 64 → w / 2 ^ j % 2 ≡ 1 → P j
  walk_end b z k j l e = pick (k.done j l e)
    where
      pick : (b / 2 ^ j % 2 ≡ 1) ⊎ P j → P j
      pick (inl h) =
          let n : b / 2 ^ j % 2 ≡ 0 = ap (λ (x : ℕ). x / 2 ^ j % 2) z ∙ ap (λ (x : ℕ). x % 2) (zero-div (2 ^ j)) in
          absurd (omega arith)
      pick (inr h) = h

-- a loop over topics or words that ends where one fails
module _ (Q : ℕ → Type 0) where
  pub up_none : (k : ℕ) → k < 0 → Q k
  up_none k h = absurd (not-suc-le-zero h)

  pub up_more : (n : ℕ) → ((k : ℕ) → k < n → Q k) → Q n → (k : ℕ) → k < n + 1 → Q k
  up_more n f q k h =
      by_order (Q k) k n (f k) (λ l.
      let e : n ≡ k = omega arith in
      subst Q e q)

pub refused : {P : Type 0} → false ≡ true → P
refused e = absurd (never e)
