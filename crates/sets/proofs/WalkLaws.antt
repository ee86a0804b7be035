-- Laws of sets at a slot, and one turn of a loop along a list as a step of the definition that walks the list.
-- Assumes nothing.
use Prim.Native.Nat.{ℕ, zero, suc, ◌+◌, ◌-◌, ◌≤◌, ◌<◌}
use native.Mathlib.Nat.{not-suc-le-zero, le_of_suc-le-suc, suc_inj, suc-ne-zero}
use native.Mathlib.Omega.{arith}
use mathlib.Core.Path.{◌≡◌, refl, sym, ap, ap₂, ◌∙◌}
use mathlib.Core.Bool.{Bool, true, false, not, cond, ◌&&◌, ◌||◌, and-true, and-false, false≢true}
use mathlib.Core.List.{List, [], ◌∷◌}
use lib.ListN.{length, get_or, set, drop, drop_of_length-le, length-map}
use lib.Dec.{ltb, leb}
use borrow.Author.Tests.{lt-ltb, le-ltb, le-leb, lt-leb, ltb-true}
use Rattle.index.proofs.Index.{both as halves}
use Rattle.index.proofs.Flags.{by_order}
use Rattle.sets.proofs.Loops.{drop_step, map_at}
use Rattle.sets.specs.Sets.{
  at,
  size,
  both,
  except,
  from,
  above,
  in_order,
  takes,
  fill,
  better,
  top,
  bests,
  worse,
  bottom,
  goer,
  first_of,
  last_of,
  comers,
  swap_once,
  swap_to,
}

-- ---- a set at a slot
pub at_below : (m : List Bool) (s : ℕ) → at m s ≡ true → s < length m
at_below [] s e = absurd (false≢true e)
at_below (x ∷ m) zero e = omega arith
at_below (x ∷ m) (suc s) e = let h : s < length m = at_below m s e in omega arith

pub at_past : (m : List Bool) (s : ℕ) → length m ≤ s → at m s ≡ false
at_past [] s h = refl
at_past (x ∷ m) zero h = absurd (not-suc-le-zero h)
at_past (x ∷ m) (suc s) h = at_past m s (le_of_suc-le-suc h)

pub both_at : (a b : List Bool) (k : ℕ) → at (both a b) k ≡ (at a k && at b k)
unfolding both
both_at [] b k = refl
both_at (x ∷ a) [] k = sym (and-false (at (x ∷ a) k))
both_at (x ∷ a) (y ∷ b) zero = refl
both_at (x ∷ a) (y ∷ b) (suc k) = both_at a b k

pub both_length : (a b : List Bool) → length a ≡ length b → length (both a b) ≡ length a
unfolding both
both_length [] b e = refl
both_length (x ∷ a) [] e = absurd (suc-ne-zero (length a) e)
both_length (x ∷ a) (y ∷ b) e = ap suc (both_length a b (suc_inj e))

pub except_at : (a b : List Bool) (k : ℕ) → at (except a b) k ≡ (at a k && not (at b k))
unfolding except
except_at [] b k = refl
except_at (x ∷ a) [] k = sym (and-true (at (x ∷ a) k))
except_at (x ∷ a) (y ∷ b) zero = refl
except_at (x ∷ a) (y ∷ b) (suc k) = except_at a b k

pub except_length : (a b : List Bool) → length (except a b) ≡ length a
unfolding except
except_length [] b = refl
except_length (x ∷ a) [] = refl
except_length (x ∷ a) (y ∷ b) = ap suc (except_length a b)

pub from_at : (x : ℕ) (sc : List ℕ) (k : ℕ) → k < length sc → at (from x sc) k ≡ leb x (get_or sc k 0)
unfolding from
from_at x sc k h = map_at (leb x) sc k 0 false h

pub from_length : (x : ℕ) (sc : List ℕ) → length (from x sc) ≡ length sc
unfolding from
from_length x sc = length-map sc (leb x)

-- above x is from the number after x
pub above_is : (x : ℕ) (sc : List ℕ) → above x sc ≡ from (x + 1) sc
unfolding above from
above_is x [] = refl
above_is x (y ∷ sc) = ap₂ (λ (b : Bool) (l : List Bool). b ∷ l) (test x y) (above_is x sc)
  where
    test : (x y : ℕ) → ltb x y ≡ leb (x + 1) y
    test x y = by_order _ x y
        (λ h. lt-ltb x y h ∙ sym (le-leb (x + 1) y (omega arith)))
        (λ h. le-ltb x y h ∙ sym (lt-leb (x + 1) y (omega arith)))

-- ---- counting
pub size_step :
    (m : List Bool) (i : ℕ) →
    i < length m →
    (t : Bool) →
    at m i ≡ t →
    size (drop i m) ≡ cond t (suc (size (drop (i + 1) m))) (size (drop (i + 1) m))
unfolding size
size_step m i h true e = rw (drop_step false m i h, e)
size_step m i h false e = rw (drop_step false m i h, e)

pub size_end : (m : List Bool) (i : ℕ) → length m ≤ i → size (drop i m) ≡ 0
unfolding size
size_end m i h = rw (drop_of_length-le m {i = i} h)

-- ---- whether a slot is put in
pub takes_at : (p : List Bool) (k : ℕ) (m : List Bool) (s : ℕ) → takes p k m s ≡ true → at p s ≡ true
takes_at p k m s e = (halves (at p s) (not (at m s)) (halves (ltb 0 k) (at p s && not (at m s)) e).1).0

pub takes_free :
    (p : List Bool) (k : ℕ) (m : List Bool) (s : ℕ) → 0 < k → at p s ≡ true → takes p k m s ≡ not (at m s)
takes_free p k m s h e =
    ap (λ (b : Bool). b && (at p s && not (at m s))) (lt-ltb 0 k h) ∙ ap (λ (b : Bool). b && not (at m s)) e

pub takes_room : (p : List Bool) (k : ℕ) (m : List Bool) (s : ℕ) → takes p k m s ≡ true → 0 < k
takes_room p k m s e = ltb-true 0 k (halves (ltb 0 k) (at p s && not (at m s)) e).0

-- ---- the walks: the slot that comes next, with the outcome t of its test, and the end
pub fill_cons :
    (p : List Bool) (k s : ℕ) (r : List ℕ) (m : List Bool) (t : Bool) →
    takes p k m s ≡ t →
    fill p k (s ∷ r) m ≡ fill p (cond t (k - 1) k) r (cond t (set m s true) m)
unfolding fill
fill_cons p k s r m t e = ap (λ (b : Bool). fill p (cond b (k - 1) k) r (cond b (set m s true) m)) e

pub fill_end :
    (p : List Bool) (k : ℕ) (d : List ℕ) (m : List Bool) (i : ℕ) → length d ≤ i → fill p k (drop i d) m ≡ m
unfolding fill
fill_end p k d m i h = rw (drop_of_length-le d {i = i} h)

module _ (p : List Bool) (d : List ℕ) (i : ℕ) (h : i < length d) (t : Bool) where
  pub fill_step :
      (k : ℕ) (m : List Bool) →
      takes p k m (get_or d i 0) ≡ t →
      fill p k (drop i d) m
      ≡ fill p (cond t (k - 1) k) (drop (i + 1) d) (cond t (set m (get_or d i 0) true) m)
  fill_step k m e =
      ap (λ (l : List ℕ). fill p k l m) (drop_step 0 d i h) ∙ fill_cons p k (get_or d i 0) (drop (i + 1) d) m t e

  pub in_order_step :
      at p (get_or d i 0) ≡ t →
      in_order p (drop i d) ≡ cond t (get_or d i 0 ∷ in_order p (drop (i + 1) d)) (in_order p (drop (i + 1) d))
  unfolding in_order
  in_order_step e =
      ap (in_order p) (drop_step 0 d i h)
      ∙ ap (λ (b : Bool). cond b (get_or d i 0 ∷ in_order p (drop (i + 1) d)) (in_order p (drop (i + 1) d))) e

  pub first_step :
      (n : ℕ) →
      at p (get_or d i 0) ≡ t →
      first_of p (drop i d) n ≡ cond t (get_or d i 0) (first_of p (drop (i + 1) d) n)
  unfolding first_of
  first_step n e =
      ap (λ (l : List ℕ). first_of p l n) (drop_step 0 d i h)
      ∙ ap (λ (b : Bool). cond b (get_or d i 0) (first_of p (drop (i + 1) d) n)) e

  pub last_step :
      (n : ℕ) →
      at p (get_or d i 0) ≡ t →
      last_of p (drop i d) n ≡ last_of p (drop (i + 1) d) (cond t (get_or d i 0) n)
  unfolding last_of
  last_step n e =
      ap (λ (l : List ℕ). last_of p l n) (drop_step 0 d i h)
      ∙ ap (λ (b : Bool). last_of p (drop (i + 1) d) (cond b (get_or d i 0) n)) e

  pub top_step :
      (n : ℕ) (sc : List ℕ) (best : ℕ) →
      (at p (get_or d i 0) && better n sc best (get_or d i 0)) ≡ t →
      top n sc p (drop i d) best ≡ top n sc p (drop (i + 1) d) (cond t (get_or d i 0) best)
  unfolding top
  top_step n sc best e =
      ap (λ (l : List ℕ). top n sc p l best) (drop_step 0 d i h)
      ∙ ap (λ (b : Bool). top n sc p (drop (i + 1) d) (cond b (get_or d i 0) best)) e

  pub bottom_step :
      (n : ℕ) (sc : List ℕ) (low : ℕ) →
      (at p (get_or d i 0) && worse n sc low (get_or d i 0)) ≡ t →
      bottom n sc p (drop i d) low ≡ bottom n sc p (drop (i + 1) d) (cond t (get_or d i 0) low)
  unfolding bottom
  bottom_step n sc low e =
      ap (λ (l : List ℕ). bottom n sc p l low) (drop_step 0 d i h)
      ∙ ap (λ (b : Bool). bottom n sc p (drop (i + 1) d) (cond b (get_or d i 0) low)) e

module _ (p : List Bool) (d : List ℕ) (i : ℕ) (h : length d ≤ i) where
  pub in_order_end : in_order p (drop i d) ≡ []
  unfolding in_order
  in_order_end = rw (drop_of_length-le d {i = i} h)

  pub first_end : (n : ℕ) → first_of p (drop i d) n ≡ n
  unfolding first_of
  first_end n = rw (drop_of_length-le d {i = i} h)

  pub last_end : (n : ℕ) → last_of p (drop i d) n ≡ n
  unfolding last_of
  last_end n = rw (drop_of_length-le d {i = i} h)

  pub top_end : (n : ℕ) (sc : List ℕ) (best : ℕ) → top n sc p (drop i d) best ≡ best
  unfolding top
  top_end n sc best = rw (drop_of_length-le d {i = i} h)

  pub bottom_end : (n : ℕ) (sc : List ℕ) (low : ℕ) → bottom n sc p (drop i d) low ≡ low
  unfolding bottom
  bottom_end n sc low = rw (drop_of_length-le d {i = i} h)

-- whether a slot is better, by the scores of the two
pub beats_by :
    (n : ℕ) (sc : List ℕ) (p : List Bool) (best s : ℕ) {h : Bool} {score high : ℕ} →
    h ≡ at p s →
    score ≡ get_or sc s 0 →
    high ≡ get_or sc best 0 →
    (at p s && better n sc best s) ≡ (h && (leb n best || ltb high score))
beats_by n sc p best s e f g = cc

-- ---- who goes
module _ (n : ℕ) (sc d : List ℕ) (b p : List Bool) {q : List Bool} (e : q ≡ except p b) {k : ℕ} (c : k ≡ size q) where
  pub goer_lowest : {r : ℕ} → k ≡ 0 → r ≡ bottom n sc p d n → r ≡ goer n sc d b p
  unfolding goer
  goer_lowest z er =
      let h : size (except p b) ≤ 0 = let s = ap size e in omega arith in
      er ∙ rw (le-ltb 0 (size (except p b)) h)

  pub goer_last : {r : ℕ} → (k ≡ 0 → ⊥) → r ≡ last_of q d n → r ≡ goer n sc d b p
  unfolding goer
  goer_last z er =
      let h : 0 < size (except p b) = let s = ap size e in omega arith in
      er ∙ ap (λ (l : List Bool). last_of l d n) e ∙ rw (lt-ltb 0 (size (except p b)) h)

-- ---- counting down
pred_suc : (k : ℕ) → 0 < k → k ≡ suc (k - 1)
pred_suc k h = omega arith

module _ (n : ℕ) (sc : List ℕ) (m : List Bool) (d : List ℕ) (k : ℕ) (b : List Bool) where
  pub bests_step :
      0 < k → bests n sc m d k b ≡ bests n sc m d (k - 1) (set b (top n sc (except m b) d n) true)
  unfolding bests
  bests_step h = ap (λ (j : ℕ). bests n sc m d j b) (pred_suc k h)

  pub bests_end : k ≤ 0 → bests n sc m d k b ≡ b
  unfolding bests
  bests_end h = let e : k ≡ 0 = omega arith in ap (λ (j : ℕ). bests n sc m d j b) e

-- ---- the swaps: none are left, enough are outbound, none comes in, none goes out, and one more swap
module _ (n out : ℕ) (sc : List ℕ) (outs : List Bool) (d : List ℕ) (m b : List Bool) where
  pub swap_end : (f : ℕ) (k : List Bool) → f ≤ 0 → swap_to n out sc outs d m b f k ≡ k
  unfolding swap_to
  swap_end zero k h = refl
  swap_end (suc f) k h = absurd (not-suc-le-zero h)

  pub swap_enough : (f : ℕ) (k : List Bool) → out ≤ size (both k outs) → swap_to n out sc outs d m b f k ≡ k
  unfolding swap_to
  swap_enough zero k h = refl
  swap_enough (suc f) k h = rw (le-ltb (size (both k outs)) out h)

  pub swap_none :
      (f : ℕ) (k : List Bool) → size (comers n out sc outs d m b k) ≡ 0 → swap_to n out sc outs d m b f k ≡ k
  unfolding swap_to
  swap_none zero k h = refl
  swap_none (suc f) k h =
      let z : size (comers n out sc outs d m b k) ≤ 0 = omega arith in
      rw (le-ltb 0 (size (comers n out sc outs d m b k)) z, and-false (ltb (size (both k outs)) out))

  pub swap_kept :
      (f : ℕ) (k : List Bool) → size (except k outs) ≡ 0 → swap_to n out sc outs d m b f k ≡ k
  unfolding swap_to
  swap_kept zero k h = refl
  swap_kept (suc f) k h =
      let z : size (except k outs) ≤ 0 = omega arith in
      rw (le-ltb 0 (size (except k outs)) z, and-false)

  pub swap_go :
      (f : ℕ) (k : List Bool) →
      0 < f →
      size (both k outs) < out →
      0 < size (comers n out sc outs d m b k) →
      0 < size (except k outs) →
      swap_to n out sc outs d m b f k ≡ swap_to n out sc outs d m b (f - 1) (swap_once n out sc outs d m b k)
  unfolding swap_to
  swap_go f k h a c g =
      ap (λ (j : ℕ). swap_to n out sc outs d m b j k) (pred_suc f h)
      ∙ rw (
        lt-ltb (size (both k outs)) out a,
        lt-ltb 0 (size (comers n out sc outs d m b k)) c,
        lt-ltb 0 (size (except k outs)) g,
      )
