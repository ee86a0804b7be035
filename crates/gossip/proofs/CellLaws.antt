-- What a step leaves of a run of cells: a part that was written over, a copy cell by cell, whether all are 0.
-- Assumes nothing.
use Prim.Native.Nat.{ℕ, zero, ◌+◌, ◌-◌, ◌≤◌, ◌<◌}
use mathlib.Core.Path.{◌≡◌, refl, sym, ap, subst, ◌∙◌}
use mathlib.Core.Bool.{Bool, true, ◌&&◌, ◌||◌}
use mathlib.Core.List.{List, [], ◌∷◌, ◌++◌, append_assoc}
use native.Mathlib.Nat.{zero-add}
use native.Mathlib.Numerals.{add-one}
use native.Mathlib.Omega.{arith}
use lib.Bits.{bit_or, bit_and, or_add_and, and_le_l, and_le_r}
use lib.Dec.{eqb}
use lib.ListN.{length, get_or, take, drop, replicate, length-append, length-drop, get_or-append, get_or-replicate, length-replicate}
use lib.Seq.{get_or-take, get_or-drop, get_or-append-add, length-take-le, drop-drop, sets}
use Rattle.std.proofs.lemmas.List.Edits.{sets-eq}
use borrow.Author.Tests.{eqb-true, eqb-false, eq-eqb}
use borrow.Rule.Slice.PartMut.{put_mid, post_of}
use Rattle.index.specs.Index.{every}
use Rattle.std.specs.List.{list_any}
use Rattle.index.proofs.Index.{every_none, every_at}
use Rattle.index.proofs.Flags.{by_test}
use Rattle.gossip.specs.Cells.{Run}
use Rattle.gossip.specs.Notes.{has}

-- ---- a part that was written over

module _ (c ys : List ℕ) (a n : ℕ) (f : ℕ → ℕ) (fits : a + n ≤ length c) (size : length ys ≡ n) (is : (k : ℕ) → k < n → get_or ys k 0 ≡ f k) where
  front : length (take a c) ≡ a
  front = length-take-le a c (omega arith)

  pub run_put : Run c (put_mid a n c ys) a n f
  run_put =
      record {
        size =
            length-append (take a c) (ys ++ post_of a n c)
            ∙ (let p = length-append ys (post_of a n c) in
            let q = length-drop n (drop a c) in
            let r = length-drop a c in
            let s = front in
            omega arith);
        within = λ k h.
            ap (λ (m : ℕ). get_or (put_mid a n c ys) (m + k) 0) (sym front)
            ∙ get_or-append-add (take a c) (ys ++ post_of a n c) k 0
            ∙ get_or-append ys (post_of a n c) 0 k (omega arith)
            ∙ is k h;
        before = λ x h.
            get_or-append (take a c) (ys ++ post_of a n c) 0 x (let s = front in omega arith) ∙ get_or-take a c x 0 h;
        after = λ x h.
            let j = x - (a + n) in
            let e : x ≡ a + (n + j) = omega arith in
            ap (λ (m : ℕ). get_or (put_mid a n c ys) m 0) e
            ∙ ap (λ (m : ℕ). get_or (put_mid a n c ys) (m + (n + j)) 0) (sym front)
            ∙ get_or-append-add (take a c) (ys ++ post_of a n c) (n + j) 0
            ∙ ap (λ (m : ℕ). get_or (ys ++ post_of a n c) (m + j) 0) (sym size)
            ∙ get_or-append-add ys (post_of a n c) j 0
            ∙ get_or-drop n (drop a c) j 0
            ∙ get_or-drop a c (n + j) 0
            ∙ ap (λ (m : ℕ). get_or c m 0) (sym e);
      }

-- after a `fill` of the n cells from a on, as code lends them
pub filled :
    (c ys : List ℕ) (a m n : ℕ) → m ≡ n → a + n ≤ length c → ys ≡ replicate (length (take m (drop a c))) 0
    → Run c (put_mid a m c ys) a n (λ k. 0)
filled c ys a m n e fits is =
    let l : length (take m (drop a c)) ≡ m = length-take-le m (drop a c) (let d = length-drop a c in omega arith) in
    let y : ys ≡ replicate m 0 = is ∙ ap (λ (k : ℕ). replicate k 0) l in
    subst (λ (k : ℕ). Run c (put_mid a m c ys) a k (λ j. 0)) e
    (run_put c ys a m (λ k. 0) (omega arith) (ap (λ (v : List ℕ). length v) y ∙ length-replicate m zero)
    (λ k h. ap (λ (v : List ℕ). get_or v k 0) y ∙ get_or-replicate m k 0 0 h))

-- the same of the first n cells
pub front_filled : (c ys : List ℕ) (n : ℕ) → n ≤ length c → ys ≡ replicate (length (take n c)) 0 → Run c (ys ++ drop n c) 0 n (λ k. 0)
front_filled c ys n fits is = filled c ys 0 n n refl (omega arith) is

pub zero_run : {c d : List ℕ} {n : ℕ} → Run c d 0 n (λ k. 0) → (k : ℕ) → k < n → get_or d k 0 ≡ 0
zero_run {d = d} f k h = ap (λ (m : ℕ). get_or d m 0) (sym (zero-add k)) ∙ f.within k h

-- after a `copy_from_slice` into the part
pub put_sets : (l ys vs : List ℕ) (a n : ℕ) → ys ≡ vs → n ≡ length vs → a + length vs ≤ length l → put_mid a n l ys ≡ sets l a vs
put_sets l ys vs a n e f h =
    (λ i. take a l ++ (e i ++ drop (f i) (drop a l)))
    ∙ ap (λ (d : List ℕ). take a l ++ (vs ++ d)) (drop-drop (length vs) a l)
    ∙ sym (append_assoc (take a l) vs (drop (a + length vs) l))
    ∙ sym (sets-eq vs l a h)

-- ---- a copy

-- the cells from `lo` to `hi` of the run at `to` are those of the run at `from`, and no other changed
pub record Copying (c d : List ℕ) (from to lo hi : ℕ) : Type 0 where
  pub size : length d ≡ length c
  pub inside : (k : ℕ) → lo ≤ k → k < hi → get_or d (to + k) 0 ≡ get_or c (from + k) 0
  pub low : (x : ℕ) → x < to + lo → get_or d x 0 ≡ get_or c x 0
  pub high : (x : ℕ) → to + hi ≤ x → get_or d x 0 ≡ get_or c x 0

-- ---- whether all are 0

or_zero : (a b : ℕ) → eqb (bit_or a b) 0 ≡ (eqb a 0 && eqb b 0)
or_zero a b =
    let s : bit_or a b + bit_and a b ≡ a + b = or_add_and a b in
    let p : bit_and a b ≤ a = and_le_l a b in
    let q : bit_and a b ≤ b = and_le_r a b in
    by_test (eqb (bit_or a b) 0 ≡ (eqb a 0 && eqb b 0)) (eqb (bit_or a b) 0)
    (λ t.
    let z : bit_or a b ≡ 0 = eqb-true (bit_or a b) 0 t in
    t ∙ sym (rw (eq-eqb a 0 (omega arith), eq-eqb b 0 (omega arith)) refl))
    (λ t.
    by_test (eqb (bit_or a b) 0 ≡ (eqb a 0 && eqb b 0)) (eqb a 0)
    (λ u.
    by_test (eqb (bit_or a b) 0 ≡ (eqb a 0 && eqb b 0)) (eqb b 0)
    (λ v.
    let x = eqb-true a 0 u in
    let y = eqb-true b 0 v in
    absurd (eqb-false (bit_or a b) 0 t (omega arith)))
    (λ v. t ∙ sym (rw (u, v) refl)))
    (λ u. t ∙ sym (rw u refl)))

-- each of the first n
abbrev pub zeros : List ℕ → ℕ → Bool
zeros c n = every n (λ k. eqb (get_or c k 0) 0)

pub zeros_none : (c : List ℕ) → eqb 0 0 ≡ zeros c 0
zeros_none c = sym (every_none (λ k. eqb (get_or c k 0) 0))

pub zeros_more : (c : List ℕ) (n bits : ℕ) → eqb bits 0 ≡ zeros c n → eqb (bit_or bits (get_or c n 0)) 0 ≡ zeros c (n + 1)
unfolding every
zeros_more c n bits e =
    rw (add-one n) (or_zero bits (get_or c n 0) ∙ ap (λ (t : Bool). t && eqb (get_or c n 0) 0) e)

-- the first n cells are, where code that looks at them alone says so
pub zero_front :
    (c : List ℕ) (n : ℕ) (b : Bool) → n ≤ length c → b ≡ zeros (take n c) (length (take n c)) → b ≡ true
    → (k : ℕ) → k < n → get_or c k 0 ≡ 0
zero_front c n b h e t k l =
    let s : length (take n c) ≡ n = length-take-le n c h in
    sym (get_or-take n c k 0 l)
    ∙ eqb-true (get_or (take n c) k 0) 0
    (every_at (λ j. eqb (get_or (take n c) j 0) 0) (length (take n c)) k (sym e ∙ t) (omega arith))

-- ---- whether a number stands among them

pub has_any : (n : ℕ) (l : List ℕ) → list_any (λ m. eqb m n) l ≡ has n l
unfolding has
has_any n [] = refl
has_any n (m ∷ l) = ap (λ (t : Bool). eqb m n || t) (has_any n l)
