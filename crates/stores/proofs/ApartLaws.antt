-- Test 12 of a store, window by window and number by number: each number is looked for among those before it.
-- Assumes nothing.
use Prim.Native.Nat.{ℕ, zero, suc, ◌+◌, ◌*◌, ◌/◌, ◌%◌, ◌≤◌, ◌<◌}
use native.Mathlib.Nat.{not-suc-le-zero, le_of_suc-le-suc, eq-or-lt_of_le, add-zero}
use native.Mathlib.Numerals.{add-one}
use native.Mathlib.Omega.{arith}
use mathlib.Core.Bool.{Bool, true, false, not, ◌&&◌, ◌||◌, and-false}
use mathlib.Core.List.{List, [], ◌∷◌, ◌++◌, append_assoc, append-nil}
use mathlib.Core.Logic.{⊎_elim}
use mathlib.Core.Path.{◌≡◌, refl, sym, ap, subst, ◌∙◌}
use lib.Dec.{eqb, leb}
use lib.ListN.{length, get_or, take, drop, take-append-drop, length-take, length-drop}
use lib.Seq.{take-suc, take_all, ext_get_or, get_or-take, get_or-drop}
use Rattle.std.specs.List.{list_all}
use borrow.Author.Tests.{eqb-true, eqb-false, eq-eqb, ne_eqb, leb-true}
use Rattle.index.proofs.Flags.{by_test}
use Rattle.index.proofs.Index.{every_at, every_same, both, gather_more}
use Rattle.index.specs.Index.{every, gather}
use Rattle.records.specs.Records.{topic_count}
use Rattle.layout.proofs.RowLaws.{get_or_tab}
use Rattle.marks.specs.Marks.{bucket_count, word_count, is_marked, marked}
use Rattle.gossip.specs.Notes.{window_count, window_most, has}
use Rattle.gossip.specs.Valid.{all, none, flat, apart, window_ok, store_ok}
use Rattle.gossip.proofs.CellLaws.{zeros}
use Rattle.stores.specs.Marks.{windows_of, before, up_to, Seen, Looking}
use Rattle.stores.specs.View.{stores_cells, count_at, window_at, five_at, store_at, Store, Windows}
use Rattle.stores.proofs.ChangeLaws.{five_is}
use Rattle.stores.proofs.HasLaws.{has_append, has_none, or_true}
use Rattle.stores.proofs.MarkLaws.{seen_none, seen_more, new_told}
use Rattle.stores.proofs.ViewLaws.{length_window, store_five}

-- ---- none twice, from the front

eqb_sym : (m n : ℕ) → eqb m n ≡ eqb n m
eqb_sym m n =
    by_test (eqb m n ≡ eqb n m) (eqb n m)
    (λ t. eq-eqb m n (sym (eqb-true n m t)) ∙ sym t)
    (λ t. ne_eqb m n (λ e. eqb-false n m t (sym e)) ∙ sym t)

pub apart_snoc : (l : List ℕ) (n : ℕ) → apart (l ++ (n ∷ [])) ≡ apart l && not (has n l)
unfolding apart has
apart_snoc [] n = refl
apart_snoc (m ∷ l) n =
    rw (has_append m l (n ∷ []), apart_snoc l n, eqb_sym n m)
    (go (has m l) (eqb m n) (apart l) (has n l))
  where
    go : (a e p h : Bool) → not (a || (e || false)) && (p && not h) ≡ (not a && p) && not (e || h)
    go true e p h = refl
    go false true true h = refl
    go false true false h = refl
    go false false true h = refl
    go false false false h = refl

pub apart_front : (a b : List ℕ) → apart (a ++ b) ≡ true → apart a ≡ true
unfolding apart
apart_front [] b e = refl
apart_front (m ∷ a) b e =
    let q = both (not (has m (a ++ b))) (apart (a ++ b)) e in
    rw (apart_front a b q.1, go (has m a) (has m b) (rw (has_append m a b) at q.0))
  where
    go : (x y : Bool) → not (x || y) ≡ true → not x ≡ true
    go true y e = e
    go false y e = refl

-- ---- the walk

module _ (c : List ℕ) (t w : ℕ) where
  before_none : before c t 0 ≡ []
  unfolding before gather
  before_none = refl

  pub up_none : up_to c t w 0 ≡ before c t w
  unfolding up_to
  up_none = append-nil (before c t w)

  pub up_more : (k : ℕ) → k < count_at c (t * window_count + w)
      → up_to c t w (k + 1) ≡ up_to c t w k ++ (get_or (windows_of c t w) k 0 ∷ [])
  unfolding up_to
  up_more k l =
      rw (add-one k, take-suc (windows_of c t w) k 0 (rw length_window l))
      (sym (append_assoc (before c t w) (take k (windows_of c t w)) (get_or (windows_of c t w) k 0 ∷ [])))

  pub up_done : (k : ℕ) → count_at c (t * window_count + w) ≤ k → up_to c t w k ≡ before c t (w + 1)
  unfolding up_to before
  up_done k l =
      ap (λ (x : List ℕ). before c t w ++ x) (take_all k (windows_of c t w) (rw length_window l))
      ∙ sym (gather_more (windows_of c t) w)

  -- the first k and the rest
  pub up_front : (k : ℕ) → before c t (w + 1) ≡ up_to c t w k ++ drop k (windows_of c t w)
  unfolding up_to before
  up_front k =
      gather_more (windows_of c t) w
      ∙ ap (λ (x : List ℕ). before c t w ++ x) (sym (take-append-drop k (windows_of c t w)))
      ∙ sym (append_assoc (before c t w) (take k (windows_of c t w)) (drop k (windows_of c t w)))

  -- a number found again
  pub apart_out :
      (k : ℕ) → k < count_at c (t * window_count + w) →
      not (has (get_or (windows_of c t w) k 0) (up_to c t w k)) ≡ false →
      false ≡ apart (before c t (w + 1))
  apart_out k l e =
      by_test (false ≡ apart (before c t (w + 1))) (apart (before c t (w + 1)))
      (λ a.
      let f : apart (up_to c t w (k + 1)) ≡ true =
      apart_front (up_to c t w (k + 1)) (drop (k + 1) (windows_of c t w)) (ap apart (sym (up_front (k + 1))) ∙ a) in
      let g : apart (up_to c t w k) && not (has (get_or (windows_of c t w) k 0) (up_to c t w k)) ≡ true =
      sym (apart_snoc (up_to c t w k) (get_or (windows_of c t w) k 0)) ∙ ap apart (sym (up_more k l)) ∙ f in
      sym e ∙ (both (apart (up_to c t w k)) (not (has (get_or (windows_of c t w) k 0) (up_to c t w k))) g).1 ∙ sym a)
      (λ a. sym a)

  pub apart_more :
      (k : ℕ) → k < count_at c (t * window_count + w) →
      apart (up_to c t w k) ≡ true →
      not (has (get_or (windows_of c t w) k 0) (up_to c t w k)) ≡ true →
      apart (up_to c t w (k + 1)) ≡ true
  apart_more k l a e =
      ap apart (up_more k l) ∙ apart_snoc (up_to c t w k) (get_or (windows_of c t w) k 0) ∙ rw (a, e)

  -- a window whose numbers all passed
  pub window_apart :
      (k : ℕ) → count_at c (t * window_count + w) ≤ k →
      apart (up_to c t w k) ≡ true →
      true ≡ apart (before c t (w + 1))
  window_apart k l e = sym (ap apart (sym (up_done k l)) ∙ e)

  pub window_seen :
      (seen : List ℕ) (k : ℕ) → count_at c (t * window_count + w) ≤ k → Seen (up_to c t w k) seen → Seen (before c t (w + 1)) seen
  window_seen seen k l h = rw (← up_done k l) h

pub none_apart : (c : List ℕ) (t : ℕ) → apart (before c t 0) ≡ true
unfolding apart
none_apart c t = ap apart (before_none c t 0)

pub none_seen : (c seen : List ℕ) (t : ℕ) → length seen ≡ word_count → Seen (before c t 0) seen
none_seen c seen t l = rw (before_none c t 0) (seen_none seen l)

-- number k, looked for by its bucket
-- `!known || t`, by its two ways
pub told_out : (known t : Bool) → known ≡ false → not known ≡ (not known || t)
told_out known t e = subst (λ (k : Bool). not k ≡ (not k || t)) (sym e) refl

pub told_in : (known r t : Bool) → known ≡ true → r ≡ t → r ≡ (not known || t)
told_in known r t e h = subst (λ (k : Bool). r ≡ (not k || t)) (sym e) h

pub next_told :
    (c seen : List ℕ) (t w k n b : ℕ) (known r : Bool) →
    Looking c seen t w k →
    n ≡ get_or (windows_of c t w) k 0 →
    b ≡ n % bucket_count →
    known ≡ is_marked seen b →
    r ≡ (not known || not (has n (up_to c t w k))) →
    (r ≡ not (has (get_or (windows_of c t w) k 0) (up_to c t w k))) × Seen (up_to c t w (k + 1)) (marked seen b)
next_told c seen t w k n b known r h e f g i = (
  i ∙ new_told (up_to c t w k) seen n known h.marks (g ∙ ap (is_marked seen) f) ∙ rw e,
  rw (up_more c t w k h.number) (seen_more (up_to c t w k) seen (get_or (windows_of c t w) k 0) b h.marks (rw (← e) f)),
)

pub flat_five : (c : List ℕ) (t : ℕ) → flat (five_at c t) ≡ before c t window_count
unfolding flat five_at before gather
flat_five c t =
    go (f 0) (f 1) (f 2) (f 3) (f 4)
  where
    f : ℕ → List ℕ
    f w = window_at c (t * window_count + w)

    go : (v w x y z : List ℕ) → v ++ (w ++ (x ++ (y ++ (z ++ [])))) ≡ ((((([] ++ v) ++ w) ++ x) ++ y) ++ z)
    go v w x y z = simp (append_assoc, append-nil)

-- what holds of the first w windows' numbers holds of more: some stand twice, one is there
module _ (c : List ℕ) (t : ℕ) where
  before_front : (w n : ℕ) → w ≤ n → apart (before c t n) ≡ true → apart (before c t w) ≡ true
  unfolding before gather
  before_front w zero l e = let z : w ≡ 0 = omega arith in rw z e
  before_front w (suc n) l e =
      ⊎_elim
      (λ z. rw z e)
      (λ b. before_front w n (le_of_suc-le-suc b) (apart_front (before c t n) (windows_of c t n) e))
      (eq-or-lt_of_le l)

  pub before_out : (w n : ℕ) → w < n → apart (before c t (w + 1)) ≡ false → false ≡ apart (before c t n)
  before_out w n l e =
      by_test (false ≡ apart (before c t n)) (apart (before c t n))
      (λ a. sym e ∙ before_front (w + 1) n (omega arith) a ∙ sym a)
      (λ a. sym a)

  has_before : (m w n : ℕ) → w < n → has m (windows_of c t w) ≡ true → has m (before c t n) ≡ true
  unfolding before gather
  has_before m w zero l e = absurd (not-suc-le-zero l)
  has_before m w (suc n) l e =
      has_append m (before c t n) (windows_of c t n)
      ∙ ⊎_elim
      (λ z. rw (← z, e) (or_true (has m (before c t w))))
      (λ b. rw (has_before m w n b e))
      (eq-or-lt_of_le (le_of_suc-le-suc l))

  pub earlier_out : (m v w k : ℕ) → v < w → has m (windows_of c t v) ≡ true → true ≡ has m (up_to c t w k)
  unfolding up_to
  earlier_out m v w k l e =
      sym (has_append m (before c t w) (take k (windows_of c t w)) ∙ rw (has_before m v w l e))

  pub earlier_none : (m : ℕ) → has m (before c t 0) ≡ false
  earlier_none m = ap (has m) (before_none c t 0) ∙ sym (has_none m)

  pub earlier_more :
      (m v : ℕ) → has m (before c t v) ≡ false → has m (windows_of c t v) ≡ false → has m (before c t (v + 1)) ≡ false
  unfolding before
  earlier_more m v a b =
      ap (has m) (gather_more (windows_of c t) v) ∙ has_append m (before c t v) (windows_of c t v) ∙ rw (a, b)

  pub earlier_in :
      (m v w k : ℕ) → v ≤ w → w ≤ v → has m (before c t v) ≡ false → has m (take k (windows_of c t w)) ≡ has m (up_to c t w k)
  unfolding up_to
  earlier_in m v w k l b e =
      let z : v ≡ w = omega arith in
      let e' : has m (before c t w) ≡ false = rw z at e in
      sym (has_append m (before c t w) (take k (windows_of c t w)) ∙ rw e')

pub all_out :
    (c : List ℕ) (t w : ℕ) → w < window_count → apart (before c t (w + 1)) ≡ false → false ≡ apart (flat (five_at c t))
all_out c t w l e = before_out c t w window_count l e ∙ ap apart (sym (flat_five c t))

pub all_in :
    (c : List ℕ) (t w : ℕ) → w ≤ window_count → window_count ≤ w → apart (before c t w) ≡ true → true ≡ apart (flat (five_at c t))
all_in c t w l b e =
    let z : w ≡ window_count = omega arith in
    sym (ap apart (flat_five c t) ∙ (rw z at e))

-- ---- the other parts of the test

none_append : (a b : List ℕ) → none (a ++ b) ≡ none a && none b
none_append [] b = refl
none_append (n ∷ a) b = refl

none_length : (l : List ℕ) → none l ≡ eqb (length l) 0
none_length [] = refl
none_length (n ∷ l) = sym (ne_eqb (suc (length l)) 0 (λ e. omega arith))

none_window : (c : List ℕ) (p : ℕ) → none (window_at c p) ≡ eqb (count_at c p) 0
none_window c p = none_length (window_at c p) ∙ ap (λ (n : ℕ). eqb n 0) (length_window c p)

and_true : (a : Bool) → a && true ≡ a
and_true true = refl
and_true false = refl

pub vacant_five :
    (c : List ℕ) (t p : ℕ) →
    p ≡ t * window_count →
    eqb (count_at c p) 0
    && (eqb (count_at c (p + 1)) 0 && (eqb (count_at c (p + 2)) 0 && (eqb (count_at c (p + 3)) 0 && eqb (count_at c (p + 4)) 0)))
    ≡ none (flat (five_at c t))
unfolding flat
vacant_five c t p e = rw (five_is c t p e) (sym (simp (none_append, none_window, and_true)))

-- the same, as code looks at the five counts
pub vacant_part :
    (c : List ℕ) (t p n : ℕ) →
    p ≡ t * window_count →
    n ≡ window_count →
    p + window_count ≤ length c →
    zeros (take n (drop p c)) (length (take n (drop p c))) ≡ none (flat (five_at c t))
unfolding every
vacant_part c t p n e f h =
    let l : length (take n (drop p c)) ≡ 5 = simp (length-take, length-drop) (omega arith) in
    let at : (k : ℕ) → k < 5 → get_or (take n (drop p c)) k 0 ≡ get_or c (p + k) 0 =
    λ k b. get_or-take n (drop p c) k 0 (omega arith) ∙ get_or-drop p c k 0 in
    ap (λ (m : ℕ). zeros (take n (drop p c)) m) l
    ∙ every_same (λ k. eqb (get_or (take n (drop p c)) k 0) 0) (λ k. eqb (count_at c (p + k)) 0) 5
    (λ k b. ap (λ (m : ℕ). eqb m 0) (at k b))
    ∙ ap (λ (m : ℕ). every 5 (λ k. eqb (count_at c (m + k)) 0)) e
    ∙ five_zero (eqb (count_at c (t * window_count + 0)) 0) (eqb (count_at c (t * window_count + 1)) 0)
    (eqb (count_at c (t * window_count + 2)) 0) (eqb (count_at c (t * window_count + 3)) 0) (eqb (count_at c (t * window_count + 4)) 0)
    ∙ ap (λ (m : ℕ). eqb (count_at c m) 0
    && (eqb (count_at c (t * window_count + 1)) 0
    && (eqb (count_at c (t * window_count + 2)) 0 && (eqb (count_at c (t * window_count + 3)) 0 && eqb (count_at c (t * window_count + 4)) 0))))
    (add-zero (t * window_count))
    ∙ vacant_five c t (t * window_count) refl
  where
    five_zero : (a b d e f : Bool) → ((((true && a) && b) && d) && e) && f ≡ (a && (b && (d && (e && f))))
    five_zero true true true true f = refl
    five_zero true true true false f = refl
    five_zero true true false e f = refl
    five_zero true false d e f = refl
    five_zero false b d e f = refl

pub within_five :
    (c : List ℕ) (t p : ℕ) →
    p ≡ t * window_count →
    leb (count_at c p) window_most
    && (leb (count_at c (p + 1)) window_most
    && (leb (count_at c (p + 2)) window_most && (leb (count_at c (p + 3)) window_most && leb (count_at c (p + 4)) window_most)))
    ≡ all window_ok (five_at c t)
unfolding all
within_five c t p e = rw (five_is c t p e) (sym (simp (length_window, and_true)))

-- five cells as a list
five_cells :
    (c : List ℕ) (p n : ℕ) →
    n ≡ 5 →
    p + 5 ≤ length c →
    take n (drop p c) ≡ get_or c p 0 ∷ get_or c (p + 1) 0 ∷ get_or c (p + 2) 0 ∷ get_or c (p + 3) 0 ∷ get_or c (p + 4) 0 ∷ []
five_cells c p n f h =
    ext_get_or 0 (take n (drop p c))
    (get_or c p 0 ∷ get_or c (p + 1) 0 ∷ get_or c (p + 2) 0 ∷ get_or c (p + 3) 0 ∷ get_or c (p + 4) 0 ∷ []) size
    (λ i b. go i (rw size at b))
  where
    size : length (take n (drop p c)) ≡ 5
    size = simp (length-take, length-drop) (omega arith)

    at : (k : ℕ) → k < 5 → get_or (take n (drop p c)) k 0 ≡ get_or c (p + k) 0
    at k b = get_or-take n (drop p c) k 0 (omega arith) ∙ get_or-drop p c k 0

    go :
        (i : ℕ) →
        i < 5 →
        get_or (take n (drop p c)) i 0
        ≡ get_or (get_or c p 0 ∷ get_or c (p + 1) 0 ∷ get_or c (p + 2) 0 ∷ get_or c (p + 3) 0 ∷ get_or c (p + 4) 0 ∷ []) i 0
    go zero b = at 0 b ∙ ap (λ (j : ℕ). get_or c j 0) (add-zero p)
    go (suc zero) b = at 1 b
    go (suc (suc zero)) b = at 2 b
    go (suc (suc (suc zero))) b = at 3 b
    go (suc (suc (suc (suc zero)))) b = at 4 b
    go (suc (suc (suc (suc (suc i))))) b = absurd (omega arith)

pub within_part :
    (c : List ℕ) (t p n : ℕ) →
    p ≡ t * window_count →
    n ≡ window_count →
    p + window_count ≤ length c →
    list_all (λ (m : ℕ). leb m window_most) (take n (drop p c)) ≡ all window_ok (five_at c t)
within_part c t p n e f h =
    ap (list_all (λ (m : ℕ). leb m window_most)) (five_cells c p n f h)
    ∙ ap (λ (x : Bool). leb (get_or c p 0) window_most &&
    (leb (get_or c (p + 1) 0) window_most && (leb (get_or c (p + 2) 0) window_most && (leb (get_or c (p + 3) 0) window_most && x))))
    (and_true (leb (get_or c (p + 4) 0) window_most))
    ∙ within_five c t p e

pub clash : {A : Type 0} → false ≡ true → A
clash e = let z : ◌≡◌ {A = ℕ} 0 1 = cc in absurd (omega arith)

vacant_within : (l : List (List ℕ)) → none (flat l) ≡ true → all window_ok l ≡ true
unfolding all flat
vacant_within [] e = refl
vacant_within ([] ∷ r) e = vacant_within r e
vacant_within ((n ∷ w) ∷ r) e = clash e

vacant_apart : (l : List ℕ) → none l ≡ true → apart l ≡ true
unfolding apart
vacant_apart [] e = refl
vacant_apart (n ∷ l) e = clash e

module _ (c : List ℕ) (t : ℕ) (low : t < topic_count) where
  pub store_vacant : (joined : Bool) → none (flat (five_at c t)) ≡ true → true ≡ store_ok joined (store_at c t)
  unfolding store_ok
  store_vacant joined e =
      rw (
        store_five c t low,
        vacant_within (five_at c t) e,
        vacant_apart (flat (five_at c t)) e,
        e,
        or_true joined,
      )

  pub store_away : (joined : Bool) → joined ≡ false → none (flat (five_at c t)) ≡ false → false ≡ store_ok joined (store_at c t)
  unfolding store_ok
  store_away joined j e =
      rw (store_five c t low, e, j) (sym (and-false (all window_ok (five_at c t) && apart (flat (five_at c t)))))

  pub store_over : (joined : Bool) → all window_ok (five_at c t) ≡ false → false ≡ store_ok joined (store_at c t)
  unfolding store_ok
  store_over joined e = rw (store_five c t low, e)

  pub store_apart :
      (joined : Bool) → joined ≡ true → all window_ok (five_at c t) ≡ true → apart (flat (five_at c t)) ≡ store_ok joined (store_at c t)
  unfolding store_ok
  store_apart joined j e = rw (store_five c t low, e, j) (sym (and_true (apart (flat (five_at c t)))))

-- ---- what the test tells of the counts

all_at : {A : Type 0} (f : A → Bool) (l : List A) (i : ℕ) (d : A) → all f l ≡ true → i < length l → f (get_or l i d) ≡ true
unfolding all
all_at f [] i d e h = absurd (not-suc-le-zero h)
all_at f (a ∷ l) zero d e h = (both (f a) (all f l) e).0
all_at f (a ∷ l) (suc i) d e h = all_at f l i d (both (f a) (all f l) e).1 (le_of_suc-le-suc h)

within_at :
    (c : List ℕ) (t w : ℕ) → all window_ok (five_at c t) ≡ true → w < window_count → count_at c (t * window_count + w) ≤ window_most
unfolding five_at
within_at c t w e l =
    rw (← length_window c (t * window_count + w))
    (leb-true (length (window_at c (t * window_count + w))) window_most
    (rw (get_or_tab window_count (windows_of c t) w [] l) at (all_at window_ok (five_at c t) w [] e l)))

pub store_within : (c : List ℕ) (t : ℕ) → length c ≡ stores_cells → t < topic_count → all window_ok (five_at c t) ≡ true → Store c t
store_within c t s l e = record { cells = s; low = l; most = λ w b. within_at c t w e b }

-- stores that test 12 finds right, whoever is joined
pub windows_right :
    (c : List ℕ) (joined : ℕ → Bool) →
    length c ≡ stores_cells →
    every topic_count (λ t. store_ok (joined t) (store_at c t)) ≡ true →
    Windows c
unfolding store_ok
windows_right c joined s e =
    record {
      cells = s;
      most = λ p l.
          let t = p / window_count in
          let w = p % window_count in
          let b : t < topic_count = omega arith in
          let z : t * window_count + w ≡ p = omega arith in
          let f = every_at (λ t. store_ok (joined t) (store_at c t)) topic_count t e b in
          let g = (both (all window_ok (store_at c t) && apart (flat (store_at c t))) _ f).0 in
          let h = (both (all window_ok (store_at c t)) _ g).0 in
          rw (← z) (within_at c t w (rw (store_five c t b) at h) (omega arith));
    }
