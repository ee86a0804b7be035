-- What the functions that only read tell of the stores: a place, a quiet region, a list that is announced.
-- Assumes nothing.
use native.Mathlib.Numerals.{add-one}
use mathlib.Core.List.{[], ◌∷◌}
use lib.ListN.{take, set}
use lib.Seq.{length-take-le, take-suc}
use Prim.Native.Nat.{ℕ, ◌+◌, ◌*◌, ◌/◌, ◌%◌, ◌≤◌, ◌<◌}
use native.Mathlib.Nat.{zero-add}
use native.Mathlib.Omega.{arith}
use Rattle.std.proofs.Common.{Option, Some, None, is_some, position}
use Rattle.std.specs.List.{position_or_len}
use Rattle.std.proofs.lemmas.List.Quantifiers.{position-Some}
use Rattle.std.proofs.lemmas.List.Sums.{fails_before_first}
use mathlib.Core.Bool.{Bool, true, false, cond, ◌&&◌, false≢true}
use Rattle.index.proofs.Flags.{by_test, by_order}
use mathlib.Core.List.{List, ◌++◌}
use mathlib.Core.Path.{◌≡◌, sym, ap, subst, ◌∙◌}
use lib.Dec.{eqb, ltb}
use lib.ListN.{length, get_or, length-append}
use lib.Seq.{sets}
use borrow.Author.Tests.{eqb-true, eqb-false, ltb-true, lt-ltb}
use Rattle.index.proofs.Index.{both}
use Rattle.index.proofs.Lists.{sets_append}
use Rattle.records.specs.Records.{topic_count}
use Rattle.gossip.specs.Notes.{window_count, window_most, has}
use Rattle.gossip.specs.Step.{oldest_first, announced}
use Rattle.stores.specs.View.{all_windows, place_count, start_of, count_at, window_at, store_at, stored_at, Window, PlaceOf}
use Rattle.stores.proofs.ChangeLaws.{five_is}
use Rattle.stores.proofs.HasLaws.{has_at, has_index, some_hit}
use Rattle.stores.proofs.ViewLaws.{length_window, window_get_or, store_five, stored_all}

-- ---- places

-- the place of a window's number is one of all
pub place_below : {c : List ℕ} {p : ℕ} (r : ℕ) → Window c p → r < count_at c p → p * window_most + r < place_count
place_below {c} {p} r h b =
    let m : count_at c p ≤ window_most = h.most in
    let w : p < all_windows = h.low in
    omega arith

pub index_some : (n k : ℕ) (l : List ℕ) → position (λ m. eqb m n) l ≡ Some k → (k < length l) × (has n l ≡ true)
index_some n k l e =
    let q = position-Some (λ m. eqb m n) l k 0 e in
    (q.0, has_at n l k q.0 (eqb-true (get_or l k 0) n q.1))

pub index_none : (n : ℕ) (l : List ℕ) → position (λ m. eqb m n) l ≡ None → has n l ≡ false
index_none n l e =
    let p : ℕ → Bool = λ m. eqb m n in
    by_test (has n l ≡ false) (has n l)
    (λ t.
    let h = has_index n l t in
    by_order (has n l ≡ false) (position_or_len p l) (length l)
    (λ a.
    let s : is_some (position p l) ≡ true =
    ap (λ (b : Bool). is_some (cond b (Some (position_or_len p l)) None)) (lt-ltb (position_or_len p l) (length l) a) in
    absurd (false≢true (sym (ap (λ (r : Option ℕ). is_some r) e) ∙ s)))
    (λ a.
    let b = h.1.0 in
    absurd (eqb-false (get_or l h.0 0) n (fails_before_first p l h.0 0 (omega arith)) h.1.1)))
    (λ t. t)

pub place_no : (stored : Bool) (r : Option ℕ) → r ≡ None → stored ≡ false → PlaceOf stored r
place_no stored r e h = subst (λ (x : Option ℕ). PlaceOf stored x) (sym e) h

-- whether there is a place
pub place_is : (stored : Bool) (r : Option ℕ) → PlaceOf stored r → is_some r ≡ stored
place_is stored (Some p) h = sym h.0
place_is stored None h = sym h

-- what a search of a part of all tells, where the part has the number
pub place_out : (here all : Bool) (r : Option ℕ) → here ≡ true → all ≡ true → PlaceOf here r → PlaceOf all r
place_out here all (Some p) e f h = (f, h.1)
place_out here all None e f h = let z : false ≡ true = sym h ∙ e in absurd (false≢true z)

-- a number at a place in use
pub stored_here :
    (c : List ℕ) (place n count : ℕ) →
    place < place_count →
    count ≡ count_at c (place / window_most) →
    ltb (place % window_most) count && eqb (get_or c (all_windows + place) 0) n ≡ true →
    stored_at c n ≡ true
stored_here c place n count l e t =
    let p = place / window_most in
    let k = place % window_most in
    let q = both (ltb k count) (eqb (get_or c (all_windows + place) 0) n) t in
    let b : k < count_at c p = rw e at (ltb-true k count q.0) in
    let z : start_of p + k ≡ all_windows + place = omega arith in
    stored_all c n
    ∙ some_hit (λ p. has n (window_at c p)) all_windows p (omega arith)
    (has_at n (window_at c p) k (rw length_window b)
    (window_get_or c p k b ∙ ap (λ (i : ℕ). get_or c i 0) z ∙ eqb-true (get_or c (all_windows + place) 0) n q.1))

-- ---- a list that others go into

pub announced_lists :
    (c : List ℕ) (t p : ℕ) (l l₁ l₂ l₃ : List ℕ) (a b r : ℕ) →
    t < topic_count →
    p ≡ t * window_count →
    l₁ ≡ sets l 0 (window_at c (p + 2)) →
    a ≡ 0 + length (window_at c (p + 2)) →
    l₂ ≡ sets l₁ a (window_at c (p + 1)) →
    b ≡ a + length (window_at c (p + 1)) →
    l₃ ≡ sets l₂ b (window_at c p) →
    r ≡ b + length (window_at c p) →
    (l₃ ≡ sets l 0 (announced (store_at c t))) × (r ≡ length (announced (store_at c t)))
unfolding oldest_first
announced_lists c t p l l₁ l₂ l₃ a b r h e e₁ f₁ e₂ f₂ e₃ f₃ =
    let w₀ = window_at c p in
    let w₁ = window_at c (p + 1) in
    let w₂ = window_at c (p + 2) in
    let all : announced (store_at c t) ≡ (w₂ ++ w₁) ++ w₀ = ap announced (store_five c t h ∙ five_is c t p e) in
    let n : length (w₂ ++ w₁) ≡ length w₂ + length w₁ = length-append w₂ w₁ in
    let m : length ((w₂ ++ w₁) ++ w₀) ≡ length (w₂ ++ w₁) + length w₀ = length-append (w₂ ++ w₁) w₀ in
    let a' : a ≡ length w₂ = omega arith in
    let b' : b ≡ length (w₂ ++ w₁) = omega arith in (
      rw (all, e₃, e₂, e₁, b', a')
          (sym
          (sets_append l 0 (w₂ ++ w₁) w₀
          ∙ rw (sets_append l 0 w₂ w₁, zero-add, zero-add))),
      rw all (omega arith),
    )

pub sets_more :
    (l m from : List ℕ) (at k : ℕ) →
    k < length from →
    k ≤ length from →
    m ≡ sets l at (take k from) →
    set m (at + k) (get_or from k 0) ≡ sets l at (take (k + 1) from)
sets_more l m from at k h b e =
    let s : length (take k from) ≡ k = length-take-le k from b in
    rw (e, add-one, take-suc from k 0 h, sets_append l at (take k from) (get_or from k 0 ∷ []), s)
