-- A part of a list after another part was put back: of the same place it is what was put, of a place before or behind it what it was.
-- Assumes nothing.
use Rattle.index.proofs.Kit.{ℕ, ◌≤◌, ◌<◌, ◌+◌, ◌-◌, ◌≡◌, sym, ap, ◌∙◌, arith}
use Prim.Native.Nat.{suc, zero}
use mathlib.Core.List.{List, [], ◌∷◌, ◌++◌}
use lib.ListN.{length, get_or, take, drop, length-drop}
use lib.Seq.{length-take-le, drop-drop, take-take, get_or-take, take_at, drop_at, take-nil}
use borrow.Rule.Slice.PartMut.{put_mid, post_of, take_put}
use Rattle.gossip_table.specs.Parts.{part}

pub part_length : (a n : ℕ) (l : List ℕ) → a + n ≤ length l → length (part a n l) ≡ n
part_length a n l h = length-take-le n (drop a l) (let e = length-drop a l in omega arith)

-- a part lies in what is before its end
within : (b m : ℕ) (l : List ℕ) → take m (drop b l) ≡ drop b (take (b + m) l)
within zero m l = ap (λ (k : ℕ). take k l) {x = m} {y = zero + m} (omega arith)
within (suc b) m [] = take-nil m ∙ sym (ap (drop (suc b)) (take-nil (suc b + m)))
within (suc b) m (x ∷ l) =
    within b m l ∙ ap (λ (k : ℕ). drop (suc b) (take k (x ∷ l))) {x = suc (b + m)} {y = suc b + m} (omega arith)

module _ (a n : ℕ) (xs ys : List ℕ) (fits : a + n ≤ length xs) (size : length ys ≡ n) where
  front : length (take a xs) ≡ a
  front = length-take-le a xs (omega arith)

  pub part_same : part a n (put_mid a n xs ys) ≡ ys
  part_same =
      ap (take n) (drop_at (take a xs) (ys ++ post_of a n xs) a front) ∙ take_at ys (post_of a n xs) n size

  pub part_before : (b m : ℕ) → b + m ≤ a → part b m (put_mid a n xs ys) ≡ part b m xs
  part_before b m h =
      within b m (put_mid a n xs ys)
      ∙ ap (drop b)
      (sym (take-take (b + m) a (put_mid a n xs ys) h) ∙ ap (take (b + m)) (take_put a n xs ys (omega arith)) ∙ take-take (b + m) a xs h)
      ∙ sym (within b m xs)

  behind : drop (a + n) (put_mid a n xs ys) ≡ drop (a + n) xs
  behind =
      sym (drop-drop n a (put_mid a n xs ys))
      ∙ ap (drop n) (drop_at (take a xs) (ys ++ post_of a n xs) a front)
      ∙ drop_at ys (post_of a n xs) n size
      ∙ drop-drop n a xs

  pub part_behind : (b m : ℕ) → a + n ≤ b → part b m (put_mid a n xs ys) ≡ part b m xs
  part_behind b m h =
      ap (take m) (split (put_mid a n xs ys) ∙ ap (drop (b - (a + n))) behind ∙ sym (split xs))
    where
      split : (l : List ℕ) → drop b l ≡ drop (b - (a + n)) (drop (a + n) l)
      split l = sym (drop-drop (b - (a + n)) (a + n) l ∙ ap (λ (k : ℕ). drop k l) {x = a + n + (b - (a + n))} {y = b} (omega (arith, h)))

  pub cell_before : (k : ℕ) → k < a → get_or (put_mid a n xs ys) k 0 ≡ get_or xs k 0
  cell_before k h =
      sym (get_or-take a (put_mid a n xs ys) k 0 h) ∙ ap (λ (l : List ℕ). get_or l k 0) (take_put a n xs ys (omega arith)) ∙ get_or-take a xs k 0 h
