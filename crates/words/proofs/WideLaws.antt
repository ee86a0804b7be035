-- The flags of a list of words, for any number of words: one slot of them, a slot put in or out, the count, and the lowest slot.
-- Assumes nothing.
use Prim.Native.Nat.{ℕ, zero, suc, ◌+◌, ◌*◌, ◌/◌, ◌%◌, ◌^◌, ◌≤◌, ◌<◌, ◌-◌}
use native.Mathlib.Omega.{arith}
use native.Mathlib.Nat.{not-suc-le-zero, le_of_suc-le-suc, add-suc, eq-or-lt_of_le}
use native.Mathlib.Numerals.{add-one}
use mathlib.Core.Path.{◌≡◌, refl, sym, ap, ap₂, ◌∙◌}
use mathlib.Core.Bool.{Bool, true, false}
use mathlib.Core.List.{List, [], ◌∷◌, ◌++◌}
use lib.ListN.{length, get_or, set, length-set, drop, length-append, get_or-append, get_or-eq_default, drop_of_length-le, replicate}
use lib.Pow.{pow-lt}
use lib.Seq.{get_or-append-add, drop-cons, set_out, ext_get_or, get_or-set_same, get_or-set_other}
use borrow.Author.Count.{below_more}
use mathlib.Core.Logic.{⊎_elim}
use lib.Bits.{bit_and, bit_xor}
use Rattle.index.specs.Index.{count}
use Rattle.index.proofs.Index.{count_same}
use Rattle.index.proofs.Flags.{by_order}
use Rattle.words.specs.Words.{word_bits, unit, bits, bits_of, differs, lowest, PackedFrom}
use Rattle.words.proofs.BitLaws.{bits_length, bits_less, lowest_lt, lowest_none, add_lt, add_bit, xor_at}

pub bits_of_length : (ws : List ℕ) → length (bits_of ws) ≡ word_bits * length ws
unfolding bits_of
bits_of_length [] = refl
bits_of_length (w ∷ ws) =
    length-append (bits word_bits w) (bits_of ws)
    ∙ (let a = bits_length word_bits w in let b = bits_of_length ws in omega arith)

-- ---- one slot
set_front : (a b : List Bool) (s : ℕ) (v : Bool) → s < length a → set (a ++ b) s v ≡ set a s v ++ b
set_front [] b s v h = absurd (not-suc-le-zero h)
set_front (x ∷ a) b zero v h = refl
set_front (x ∷ a) b (suc s) v h = ap (λ (l : List Bool). x ∷ l) (set_front a b s v (le_of_suc-le-suc h))

set_back : (a b : List Bool) (s : ℕ) (v : Bool) → set (a ++ b) (length a + s) v ≡ a ++ set b s v
set_back [] b s v = let e : 0 + s ≡ s = omega arith in ap (λ (k : ℕ). set b k v) e
set_back (x ∷ a) b s v =
    (let e : suc (length a) + s ≡ suc (length a + s) = omega arith in ap (λ (k : ℕ). set (x ∷ (a ++ b)) k v) e)
    ∙ ap (λ (l : List Bool). x ∷ l) (set_back a b s v)

-- bit s of word i
pub at_word :
    (ws : List ℕ) (i s : ℕ) →
    i < length ws →
    s < word_bits →
    get_or (bits_of ws) (word_bits * i + s) false ≡ get_or (bits word_bits (get_or ws i 0)) s false
unfolding bits_of
at_word [] i s h l = absurd (not-suc-le-zero h)
at_word (w ∷ ws) zero s h l =
    let e : word_bits * 0 + s ≡ s = omega arith in
    ap (λ (k : ℕ). get_or (bits word_bits w ++ bits_of ws) k false) e
    ∙ get_or-append (bits word_bits w) (bits_of ws) false s (let z = bits_length word_bits w in omega arith)
at_word (w ∷ ws) (suc i) s h l =
    let e : word_bits * suc i + s ≡ length (bits word_bits w) + (word_bits * i + s) =
    let z = bits_length word_bits w in
    omega arith in
    ap (λ (k : ℕ). get_or (bits word_bits w ++ bits_of ws) k false) e
    ∙ get_or-append-add (bits word_bits w) (bits_of ws) (word_bits * i + s) false
    ∙ at_word ws i s (le_of_suc-le-suc h) l

-- bit s of word i, put in or out
pub set_word :
    (ws : List ℕ) (i s r : ℕ) (v : Bool) →
    i < length ws →
    s < word_bits →
    bits word_bits r ≡ set (bits word_bits (get_or ws i 0)) s v →
    bits_of (set ws i r) ≡ set (bits_of ws) (word_bits * i + s) v
unfolding bits_of
set_word [] i s r v h l q = absurd (not-suc-le-zero h)
set_word (w ∷ ws) zero s r v h l q =
    let e : s ≡ word_bits * 0 + s = omega arith in
    ap (λ (m : List Bool). m ++ bits_of ws) q
    ∙ sym (set_front (bits word_bits w) (bits_of ws) s v (let z = bits_length word_bits w in omega arith))
    ∙ ap (λ (k : ℕ). set (bits word_bits w ++ bits_of ws) k v) e
set_word (w ∷ ws) (suc i) s r v h l q =
    let e : length (bits word_bits w) + (word_bits * i + s) ≡ word_bits * suc i + s =
    let z = bits_length word_bits w in
    omega arith in
    ap (λ (m : List Bool). bits word_bits w ++ m) (set_word ws i s r v (le_of_suc-le-suc h) l q)
    ∙ sym (set_back (bits word_bits w) (bits_of ws) (word_bits * i + s) v)
    ∙ ap (λ (k : ℕ). set (bits word_bits w ++ bits_of ws) k v) e

-- slot s is bit s % 64 of word s / 64
split : (s : ℕ) → s ≡ word_bits * (s / word_bits) + s % word_bits
split s = omega arith

pub at_slot :
    (ws : List ℕ) (s : ℕ) →
    s < word_bits * length ws →
    get_or (bits word_bits (get_or ws (s / word_bits) 0)) (s % word_bits) false ≡ get_or (bits_of ws) s false
at_slot ws s h =
    sym (at_word ws (s / word_bits) (s % word_bits) (omega arith) (omega arith))
    ∙ ap (λ (k : ℕ). get_or (bits_of ws) k false) (sym (split s))

pub set_slot :
    (ws : List ℕ) (s r : ℕ) (v : Bool) →
    s < word_bits * length ws →
    bits word_bits r ≡ set (bits word_bits (get_or ws (s / word_bits) 0)) (s % word_bits) v →
    bits_of (set ws (s / word_bits) r) ≡ set (bits_of ws) s v
set_slot ws s r v h q =
    set_word ws (s / word_bits) (s % word_bits) r v (omega arith) (omega arith) q
    ∙ ap (λ (k : ℕ). set (bits_of ws) k v) (sym (split s))

-- past the last word
pub at_past : (ws : List ℕ) (s : ℕ) → word_bits * length ws ≤ s → get_or (bits_of ws) s false ≡ false
at_past ws s h = get_or-eq_default (bits_of ws) false (let e = bits_of_length ws in omega arith)

pub set_past : (ws : List ℕ) (s : ℕ) (b : Bool) → word_bits * length ws ≤ s → set (bits_of ws) s b ≡ bits_of ws
set_past ws s b h = set_out (bits_of ws) s b (let e = bits_of_length ws in omega arith)

-- a list with the flags of every word is the words' list
pub is_bits_of :
    (ws : List ℕ) (m : List Bool) →
    length m ≡ word_bits * length ws →
    ((i : ℕ) → i < length ws → PackedFrom m i (get_or ws i 0)) →
    bits_of ws ≡ m
is_bits_of ws m e h =
    ext_get_or false (bits_of ws) m (bits_of_length ws ∙ sym e)
    (λ s l.
    let z = bits_of_length ws in
    sym (at_slot ws s (omega arith))
    ∙ h (s / word_bits) (omega arith) (s % word_bits) (omega arith)
    ∙ ap (λ (k : ℕ). get_or m k false) (sym (split s)))

-- ---- the count
count_add : (f : ℕ → Bool) (a b : ℕ) → count (a + b) f ≡ count a f + count b (λ s. f (a + s))
unfolding count
count_add f a zero = let e : a + 0 ≡ a = omega arith in rw e (omega arith)
count_add f a (suc b) =
    let h = count_add f a b in
    rw (add-suc a b) (omega arith)

pub count_word :
    (ws : List ℕ) (i n r : ℕ) →
    i < length ws →
    n ≡ count (word_bits * i) (λ s. get_or (bits_of ws) s false) →
    r ≡ count word_bits (λ s. get_or (bits word_bits (get_or ws i 0)) s false) →
    n + r ≡ count (word_bits * (i + 1)) (λ s. get_or (bits_of ws) s false)
count_word ws i n r h en er =
    let f : ℕ → Bool = λ s. get_or (bits_of ws) s false in
    let e : word_bits * i + word_bits ≡ word_bits * (i + 1) = omega arith in
    ap₂ (λ (x y : ℕ). x + y) en
    (er
    ∙ sym
    (count_same (λ s. f (word_bits * i + s)) (λ s. get_or (bits word_bits (get_or ws i 0)) s false) word_bits
    (λ s l. at_word ws i s h l)))
    ∙ sym (count_add f (word_bits * i) word_bits)
    ∙ ap (λ (k : ℕ). count k f) e

-- ---- the lowest slot
lowest_front : (a b : List Bool) → lowest a < length a → lowest (a ++ b) ≡ lowest a
unfolding lowest
lowest_front [] b h = absurd (not-suc-le-zero h)
lowest_front (true ∷ a) b h = refl
lowest_front (false ∷ a) b h = ap suc (lowest_front a b (le_of_suc-le-suc h))

lowest_back : (a b : List Bool) → lowest a ≡ length a → lowest (a ++ b) ≡ length a + lowest b
unfolding lowest
lowest_back [] b h = omega arith
lowest_back (true ∷ a) b h = absurd (omega arith)
lowest_back (false ∷ a) b h = let e = lowest_back a b (omega arith) in omega arith

rest_of : (ws : List ℕ) (i : ℕ) → i < length ws → bits_of (drop i ws) ≡ bits word_bits (get_or ws i 0) ++ bits_of (drop (i + 1) ws)
unfolding bits_of
rest_of ws i h = rw (add-one, drop-cons ws i 0 h)

-- a walk over the words that passed i of them
abbrev pub Passed : List ℕ → ℕ → Type 0
Passed ws i = word_bits * i + lowest (bits_of (drop i ws)) ≡ lowest (bits_of ws)

module _ (ws : List ℕ) (i w : ℕ) (h : i < length ws) (e : w ≡ get_or ws i 0) (p : Passed ws i) where
  pub passed_zero : w ≡ 0 → Passed ws (i + 1)
  passed_zero z =
      let n : lowest (bits word_bits (get_or ws i 0)) ≡ length (bits word_bits (get_or ws i 0)) =
      rw (sym e ∙ z) (lowest_none word_bits ∙ sym (bits_length word_bits 0)) in
      let b = lowest_back (bits word_bits (get_or ws i 0)) (bits_of (drop (i + 1) ws)) n in
      let l = bits_length word_bits (get_or ws i 0) in
      let q = ap lowest (rest_of ws i h) in
      omega arith

  pub passed_hit : 0 < w → w < 2 ^ word_bits → word_bits * i + lowest (bits word_bits w) ≡ lowest (bits_of ws)
  passed_hit k l =
      let s : lowest (bits word_bits (get_or ws i 0)) < length (bits word_bits (get_or ws i 0)) =
      rw (← e) (let a = lowest_lt word_bits w k l in let b = bits_length word_bits w in omega arith) in
      let b = lowest_front (bits word_bits (get_or ws i 0)) (bits_of (drop (i + 1) ws)) s in
      let q = ap lowest (rest_of ws i h) in
      let x = ap (λ (y : ℕ). lowest (bits word_bits y)) e in
      omega arith

  -- the words without their lowest slot
  pub cleared_hit :
      0 < w → w < 2 ^ word_bits → bits_of (set ws i (bit_and w (w - 1))) ≡ set (bits_of ws) (lowest (bits_of ws)) false
  cleared_hit k l =
      set_word ws i (lowest (bits word_bits w)) (bit_and w (w - 1)) false h (lowest_lt word_bits w k l)
      (bits_less word_bits w k l ∙ ap (λ (y : ℕ). set (bits word_bits y) (lowest (bits word_bits w)) false) e)
      ∙ ap (λ (s : ℕ). set (bits_of ws) s false) (passed_hit k l)

pub passed_none : (ws : List ℕ) → Passed ws 0
passed_none ws = omega arith

pub passed_all : (ws : List ℕ) (i : ℕ) → length ws ≤ i → Passed ws i → word_bits * i ≡ lowest (bits_of ws)
unfolding bits_of lowest
passed_all ws i h p =
    let e = ap (λ (l : List ℕ). lowest (bits_of l)) (drop_of_length-le ws {i = i} h) in
    omega arith

pub pow_le : {i j : ℕ} → i ≤ j → 2 ^ i ≤ 2 ^ j
pow_le {i} {j} h = ⊎_elim (λ e. rw e (omega arith)) (λ l. let p = pow-lt l in omega arith) (eq-or-lt_of_le h)

-- ---- a word made of the flags of its slots: the first j of them are in, and no bit above
pub record Packing (flags : List Bool) (i j w : ℕ) : Type 0 where
  pub low : j ≤ word_bits
  pub small : w < 2 ^ j
  pub done : (s : ℕ) → s < j → get_or (bits word_bits w) s false ≡ get_or flags (word_bits * i + s) false

pub packing_none : (flags : List Bool) (i : ℕ) → Packing flags i 0 0
packing_none flags i = record { low = omega arith; small = omega arith; done = λ s h. absurd (not-suc-le-zero h) }

pub record Packs (flags : List Bool) (i j w : ℕ) : Type 0 where
  pub packing : Packing flags i (j + 1) w
  pub fits : w < 2 ^ word_bits

pub packing_more :
    (flags : List Bool) (i j w v : ℕ) (b : Bool) →
    Packing flags i j w →
    j < word_bits →
    v ≡ unit b * 2 ^ j →
    b ≡ get_or flags (word_bits * i + j) false →
    Packs flags i j (w + v)
packing_more flags i j w v b p h e q =
    let l = add_lt w j b p.small in
    let c : bits word_bits (w + unit b * 2 ^ j) ≡ set (bits word_bits w) j b = add_bit j word_bits w b h p.small in
    rw e
    (record {
      packing =
          record {
            low = omega arith;
            small = l;
            done =
                below_more
                (λ (s : ℕ). get_or (bits word_bits (w + unit b * 2 ^ j)) s false ≡ get_or flags (word_bits * i + s) false)
                j
                (λ s k.
                ap (λ (m : List Bool). get_or m s false) c
                ∙ get_or-set_other (bits word_bits w) j s b false (λ z. omega arith)
                ∙ p.done s k)
                (ap (λ (m : List Bool). get_or m j false) c
                ∙ get_or-set_same (bits word_bits w) j b false (let z = bits_length word_bits w in omega arith)
                ∙ q);
          };
      fits = let m : 2 ^ (j + 1) ≤ 2 ^ word_bits = pow_le {i = j + 1} {j = word_bits} (omega arith) in omega arith;
    })

pub packing_done :
    (flags : List Bool) (i j w : ℕ) → word_bits ≤ j → Packing flags i j w → PackedFrom flags i w
packing_done flags i j w h p s l = p.done s (omega arith)

-- words made one after the other: the first i of n
pub record PackedBelow (flags : List Bool) (n i : ℕ) (r : List ℕ) : Type 0 where
  pub low : i ≤ n
  pub len : length r ≡ n
  pub below : (k : ℕ) → k < i → PackedFrom flags k (get_or r k 0)

pub packed_none : (flags : List Bool) (n : ℕ) (r : List ℕ) → length r ≡ n → PackedBelow flags n 0 r
packed_none flags n r l = record { low = omega arith; len = l; below = λ k h. absurd (not-suc-le-zero h) }

pub packed_more :
    (flags : List Bool) (n i : ℕ) (r : List ℕ) (w : ℕ) →
    i < n →
    PackedBelow flags n i r →
    PackedFrom flags i w →
    PackedBelow flags n (i + 1) (set r i w)
packed_more flags n i r w h b p =
    record {
      low = omega arith;
      len = length-set r i w ∙ b.len;
      below =
          below_more (λ (k : ℕ). PackedFrom flags k (get_or (set r i w) k 0)) i
          (λ k lt. rw (get_or-set_other r i k w 0 (λ e. omega arith)) (b.below k lt))
          (rw (get_or-set_same r i w 0 (let l = b.len in omega arith)) p);
    }

pub packed_done :
    (flags : List Bool) (n i : ℕ) (r : List ℕ) →
    n ≤ i →
    length flags ≡ word_bits * n →
    PackedBelow flags n i r →
    bits_of r ≡ flags
packed_done flags n i r h l b =
    let e = b.len in
    is_bits_of r flags (omega arith) (λ k lt. b.below k (omega arith))

-- ---- no slot at all
none_word : (k : ℕ) (m : List Bool) (n : ℕ) → m ≡ replicate n false → bits k 0 ++ m ≡ replicate (k + n) false
unfolding bits
none_word zero m n e = e ∙ ap (λ (j : ℕ). replicate j false) (let z : n ≡ 0 + n = omega arith in z)
none_word (suc k) m n e =
    ap (λ (l : List Bool). false ∷ l) (none_word k m n e)
    ∙ ap (λ (j : ℕ). replicate j false) (let z : suc (k + n) ≡ suc k + n = omega arith in z)

pub none_bits : (n : ℕ) → bits_of (replicate n 0) ≡ replicate (word_bits * n) false
unfolding bits_of
none_bits zero = refl
none_bits (suc n) =
    none_word word_bits (bits_of (replicate n 0)) (word_bits * n) (none_bits n)
    ∙ ap (λ (j : ℕ). replicate j false) (let z : word_bits + word_bits * n ≡ word_bits * suc n = omega arith in z)

-- ---- what is in one of two sets alone
pub differ_words :
    (a b r : List ℕ) (n : ℕ) →
    length a ≡ n →
    length b ≡ n →
    length r ≡ n →
    ((k : ℕ) → k < n → get_or r k 0 ≡ bit_xor (get_or a k 0) (get_or b k 0)) →
    (s : ℕ) →
    get_or (bits_of r) s false ≡ differs (get_or (bits_of a) s false) (get_or (bits_of b) s false)
differ_words a b r n la lb lr h s =
    by_order (get_or (bits_of r) s false ≡ differs (get_or (bits_of a) s false) (get_or (bits_of b) s false)) s (word_bits * n)
    (λ l.
    sym (at_slot r s (omega arith))
    ∙ ap (λ (w : ℕ). get_or (bits word_bits w) (s % word_bits) false) (h (s / word_bits) (omega arith))
    ∙ xor_at word_bits (get_or a (s / word_bits) 0) (get_or b (s / word_bits) 0) (s % word_bits)
    ∙ ap₂ (λ (p q : Bool). differs p q) (at_slot a s (omega arith)) (at_slot b s (omega arith)))
    (λ l.
    at_past r s (omega arith)
    ∙ sym (ap₂ (λ (p q : Bool). differs p q) (at_past a s (omega arith)) (at_past b s (omega arith))))
