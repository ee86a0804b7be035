-- The lowest slot of a set from a slot on: within the word where it starts, or the first of a later word that is not 0.
-- Assumes nothing.
use Prim.Native.Nat.{ℕ, ◌+◌, ◌*◌, ◌-◌, ◌/◌, ◌%◌, ◌^◌, ◌≤◌, ◌<◌}
use native.Mathlib.Omega.{arith}
use native.Mathlib.Nat.{not-suc-le-zero, le_of_suc-le-suc, div-eq_of_lt, div-le_self}
use mathlib.Core.Path.{◌≡◌, refl, sym, ap, ◌∙◌}
use mathlib.Core.Bool.{Bool, true, false, false≢true}
use mathlib.Core.List.{List, [], ◌∷◌}
use lib.ListN.{length, get_or}
use lib.Pow.{shr-shr}
use Rattle.index.proofs.Flags.{by_order}
use Rattle.records.specs.Records.{slot_count}
use Rattle.words.specs.Words.{word_bits, word_count, odd, bits, bits_of, lowest, Next}
use Rattle.words.proofs.BitLaws.{bits_at, bits_length, lowest_lt, none_at}
use Rattle.words.proofs.SlotWalk.{lowest_below, lowest_most}
use Rattle.words.proofs.WideLaws.{at_word, pow_le}

lowest_at : (m : List Bool) → lowest m < length m → get_or m (lowest m) false ≡ true
unfolding lowest
lowest_at [] h = absurd (not-suc-le-zero h)
lowest_at (true ∷ m) h = refl
lowest_at (false ∷ m) h = lowest_at m (le_of_suc-le-suc h)

-- the slots from the i-th word up to the k-th are not in the set
abbrev pub Clear : List Bool → ℕ → ℕ → Type 0
Clear m i k = (s : ℕ) → i ≤ s → s < k → get_or m s false ≡ false

module _ (ws : List ℕ) (len : length ws ≡ word_count) (k : ℕ) (h : k < word_count) where
  abbrev w : ℕ
  w = get_or ws k 0

  -- slot 64 k + a + j is bit j of the word moved down by a
  moved : (a j : ℕ) → a + j < word_bits → get_or (bits_of ws) (word_bits * k + a + j) false ≡ get_or (bits word_bits (w / 2 ^ a)) j false
  moved a j l =
      let e : word_bits * k + a + j ≡ word_bits * k + (a + j) = omega arith in
      ap (λ (n : ℕ). get_or (bits_of ws) n false) e
      ∙ at_word ws k (a + j) (omega arith) l
      ∙ bits_at (a + j) word_bits w l
      ∙ ap odd (sym (shr-shr w a j))
      ∙ sym (bits_at j word_bits (w / 2 ^ a) (omega arith))

  -- a word that is 0 from bit a on
  pub clear_word : (a : ℕ) → w / 2 ^ a ≡ 0 → Clear (bits_of ws) (word_bits * k + a) (word_bits * (k + 1))
  clear_word a z s l m =
      let j : ℕ = s - (word_bits * k + a) in
      let e : s ≡ word_bits * k + a + j = omega arith in
      ap (λ (n : ℕ). get_or (bits_of ws) n false) e
      ∙ moved a j (omega arith)
      ∙ ap (λ (x : ℕ). get_or (bits word_bits x) j false) z
      ∙ none_at word_bits j

  -- the first bit from bit a on
  module _ (a : ℕ) (f : w < 2 ^ word_bits) (p : 0 < w / 2 ^ a) where
    abbrev d : ℕ
    d = lowest (bits word_bits (w / 2 ^ a))

    fits : w / 2 ^ a < 2 ^ word_bits
    fits = let l = div-le_self w (2 ^ a) in omega arith

    first : get_or (bits word_bits (w / 2 ^ a)) d false ≡ true
    first =
        let n = lowest_lt word_bits (w / 2 ^ a) p fits in
        let b = bits_length word_bits (w / 2 ^ a) in
        lowest_at (bits word_bits (w / 2 ^ a)) (omega arith)

    -- no bit of a word is past its end
    top : a + d < word_bits
    top =
        let n = lowest_lt word_bits (w / 2 ^ a) p fits in
        by_order (a + d < word_bits) (a + d) word_bits
        (λ l. l)
        (λ (l : word_bits ≤ a + d).
        let g = pow_le {i = word_bits} {j = a + d} l in
        let z : w / 2 ^ (a + d) ≡ 0 = div-eq_of_lt {n = w} {m = 2 ^ (a + d)} (omega arith) in
        absurd
        (false≢true
        (sym (ap odd z) ∙ ap odd (sym (shr-shr w a d)) ∙ sym (bits_at d word_bits (w / 2 ^ a) n) ∙ first)))

    pub hit_word : (s r : ℕ) → s ≡ word_bits * k + a → r ≡ s + d → Next (bits_of ws) s r
    hit_word s r es er =
        let n = top in
        let q : r ≡ word_bits * k + a + d = omega arith in
        record {
          later = omega arith;
          most = omega arith;
          none = λ x lx mx.
              let j : ℕ = x - s in
              let e : x ≡ word_bits * k + a + j = omega arith in
              ap (λ (n : ℕ). get_or (bits_of ws) n false) e
              ∙ moved a j (omega arith)
              ∙ lowest_below (bits word_bits (w / 2 ^ a)) j (omega arith);
          here = λ l.
              ap (λ (n : ℕ). get_or (bits_of ws) n false) q
              ∙ moved a d top
              ∙ first;
        }

  -- the same of a whole word
  whole : w / 2 ^ 0 ≡ w
  whole = omega arith

  pub clear_more : (i : ℕ) → Clear (bits_of ws) i (word_bits * k) → w ≡ 0 → Clear (bits_of ws) i (word_bits * (k + 1))
  clear_more i c z s l m =
      by_order (get_or (bits_of ws) s false ≡ false) s (word_bits * k)
      (λ y. c s l y)
      (λ (y : word_bits * k ≤ s). clear_word 0 (whole ∙ z) s (omega arith) m)

  pub hit_first : (r : ℕ) → w < 2 ^ word_bits → 0 < w → r ≡ word_bits * k + lowest (bits word_bits w) → Next (bits_of ws) (word_bits * k) r
  hit_first r f p e =
      let z = whole in
      hit_word 0 f (omega arith) (word_bits * k) r (omega arith)
      (e ∙ ap (λ (x : ℕ). word_bits * k + lowest (bits word_bits x)) (sym z))

-- slots that are not in the set, then the lowest from there on
pub next_after : (m : List Bool) (s k r : ℕ) → s ≤ k → Clear m s k → Next m k r → Next m s r
next_after m s k r h c n =
    record {
      later = let a = n.later in omega arith;
      most = n.most;
      none = λ x l u. by_order (get_or m x false ≡ false) x k (λ y. c x l y) (λ y. n.none x y u);
      here = n.here;
    }

-- from slot 0 on it is the lowest of all
pub next_lowest : (m : List Bool) (r : ℕ) → length m ≡ slot_count → Next m 0 r → r ≡ lowest m
next_lowest m r l n =
    let most = lowest_most m in
    by_order (r ≡ lowest m) r (lowest m)
    (λ k. absurd (false≢true (sym (lowest_below m r k) ∙ n.here (omega arith))))
    (λ k.
    by_order (r ≡ lowest m) (lowest m) r
    (λ j. let q = n.most in absurd (false≢true (sym (n.none (lowest m) (omega arith) j) ∙ lowest_at m (omega arith))))
    (λ j. omega arith))

pub next_end : (m : List Bool) (s : ℕ) → s ≡ slot_count → Next m s slot_count
next_end m s e = record { later = omega arith; most = omega arith; none = λ k l u. absurd (omega arith); here = λ l. absurd (omega arith) }

-- from a slot on: within its word, or behind it
module _ (ws : List ℕ) (len : length ws ≡ word_count) (s : ℕ) (h : s < slot_count) (r : ℕ) where
  abbrev v : ℕ
  v = get_or ws (s / word_bits) 0 / 2 ^ (s % word_bits)

  pub hit_slot : get_or ws (s / word_bits) 0 < 2 ^ word_bits → 0 < v → r ≡ s + lowest (bits word_bits v) → Next (bits_of ws) s r
  hit_slot f p e = hit_word ws len (s / word_bits) (omega arith) (s % word_bits) f p s r (omega arith) e

  pub pass_slot : v ≡ 0 → Next (bits_of ws) (word_bits * (s / word_bits + 1)) r → Next (bits_of ws) s r
  pass_slot z n =
      next_after (bits_of ws) s (word_bits * (s / word_bits + 1)) r (omega arith)
      (λ k l u. clear_word ws len (s / word_bits) (omega arith) (s % word_bits) z k (omega arith) u)
      n
