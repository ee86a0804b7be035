-- The replies, row by row: how often a number counts for a slot, which numbers there are, and how long the counts are, after each change.
-- Assumes nothing.
use Prim.Native.Nat.{ℕ, suc, ◌+◌, ◌<◌, ◌≤◌}
use native.Mathlib.Omega.{arith}
use mathlib.Core.Path.{◌≡◌, refl, sym, ap, ◌∙◌}
use mathlib.Core.Bool.{Bool, true, false, cond, ◌&&◌}
use mathlib.Core.List.{List, [], ◌∷◌, map}
use lib.Dec.{eqb, ltb}
use lib.ListN.{length, get_or, set, replicate, length-replicate, get_or-replicate, get_or-eq_default}
use lib.Seq.{get_or-set_same, get_or-set_other, set_out}
use borrow.Author.Tests.{eqb-true, eqb-false, eq-eqb, ne_eqb, ltb-true, ltb-false, lt-ltb}
use Rattle.index.proofs.Index.{both}
use Rattle.index.proofs.Flags.{by_test, by_order, cond_case}
use Rattle.records.specs.Records.{slot_count}
use Rattle.gossip.specs.Notes.{Row, has, count_in, first_reply, one_more, replied, ended, keep}
use Rattle.gossip.specs.Valid.{all, rises, row_number}
use Rattle.gossip.proofs.ListLaws.{and_by, clash, all_at, all_by}

-- ---- a reply's three ways: a new row before this one, one more in this one, further on
pub replied_case :
    (P : List Row → Type 0) (n s : ℕ) (r : Row) (l : List Row) →
    (n < r.number → P (first_reply n s ∷ r ∷ l)) →
    (n ≡ r.number → P (one_more r s ∷ l)) →
    (r.number < n → P (r ∷ replied n s l)) →
    P (replied n s (r ∷ l))
unfolding replied
replied_case P n s r l before here after =
    cond_case P (ltb n r.number) _ _
    (λ a. before (ltb-true n r.number a))
    (λ a.
    cond_case P (eqb n r.number) _ _
    (λ b. here (eqb-true n r.number b))
    (λ b.
    let x = ltb-false n r.number a in
    after (by_order _ r.number n (λ h. h) (λ h. absurd (eqb-false n r.number b (omega arith))))))

pub replied_first : (P : List Row → Type 0) (n s : ℕ) → P (first_reply n s ∷ []) → P (replied n s [])
unfolding replied
replied_first P n s h = h

-- ---- which numbers there are
abbrev pub numbers : List Row → List ℕ
numbers l = map row_number l

pub ended_numbers : (s : ℕ) (l : List Row) → numbers (ended s l) ≡ numbers l
unfolding ended
ended_numbers s [] = refl
ended_numbers s (r ∷ l) = ap (λ (w : List ℕ). r.number ∷ w) (ended_numbers s l)

-- what holds of all numbers holds of those that stay
pub keep_all : (f h : ℕ → Bool) (l : List Row) → all h (numbers l) ≡ true → all h (numbers (keep f l)) ≡ true
unfolding keep all
keep_all f h [] a = refl
keep_all f h (r ∷ l) a =
    let q = both (h r.number) (all h (numbers l)) a in
    by_test _ (f r.number) (λ e. rw e (and_by q.0 (keep_all f h l q.1))) (λ e. rw e (keep_all f h l q.1))

pub keep_kept : (f : ℕ → Bool) (l : List Row) → all f (numbers (keep f l)) ≡ true
unfolding keep all
keep_kept f [] = refl
keep_kept f (r ∷ l) = by_test _ (f r.number) (λ e. rw e (and_by e (keep_kept f l))) (λ e. rw e (keep_kept f l))

pub keep_rises : (f : ℕ → Bool) (l : List Row) → rises (numbers l) ≡ true → rises (numbers (keep f l)) ≡ true
unfolding keep rises
keep_rises f [] r = refl
keep_rises f (x ∷ l) r =
    let q = both (all (ltb x.number) (numbers l)) (rises (numbers l)) r in
    by_test _ (f x.number)
    (λ e. rw e (and_by (keep_all f (ltb x.number) l q.0) (keep_rises f l q.1)))
    (λ e. rw e (keep_rises f l q.1))

pub replied_all :
    (f : ℕ → Bool) (n s : ℕ) (l : List Row) → f n ≡ true → all f (numbers l) ≡ true → all f (numbers (replied n s l)) ≡ true
unfolding all
replied_all f n s [] e a = replied_first (λ (w : List Row). all f (numbers w) ≡ true) n s (and_by e refl)
replied_all f n s (r ∷ l) e a =
    let q = both (f r.number) (all f (numbers l)) a in
    replied_case (λ (w : List Row). all f (numbers w) ≡ true) n s r l
    (λ h. and_by e a)
    (λ h. a)
    (λ h. and_by q.0 (replied_all f n s l e q.1))

-- numbers below those of a rising list are not in it
above : (n k : ℕ) (l : List ℕ) → n ≤ k → all (ltb k) l ≡ true → all (ltb n) l ≡ true
above n k l h a =
    all_by (ltb n) l (λ m e. lt-ltb n m (let z = ltb-true k m (all_at (ltb k) l m a e) in omega arith))

pub replied_rises : (n s : ℕ) (l : List Row) → rises (numbers l) ≡ true → rises (numbers (replied n s l)) ≡ true
unfolding rises all
replied_rises n s [] r = replied_first (λ (w : List Row). rises (numbers w) ≡ true) n s refl
replied_rises n s (x ∷ l) r =
    let q = both (all (ltb x.number) (numbers l)) (rises (numbers l)) r in
    replied_case (λ (w : List Row). rises (numbers w) ≡ true) n s x l
    (λ h. and_by (and_by (lt-ltb n x.number h) (above n x.number (numbers l) (omega arith) q.0)) r)
    (λ h. r)
    (λ h. and_by (replied_all (ltb x.number) n s l (lt-ltb x.number n h) q.0) (replied_rises n s l q.1))

-- ---- how many rows
pub ended_length : (s : ℕ) (l : List Row) → length (ended s l) ≡ length l
unfolding ended
ended_length s [] = refl
ended_length s (r ∷ l) = ap suc (ended_length s l)

pub keep_length : (f : ℕ → Bool) (l : List Row) → length (keep f l) ≤ length l
unfolding keep
keep_length f [] = omega arith
keep_length f (r ∷ l) =
    let z = keep_length f l in
    by_test _ (f r.number) (λ e. rw e (omega arith)) (λ e. rw e (omega arith))

-- a number that has a row gets no other
pub replied_old : (n s : ℕ) (l : List Row) → rises (numbers l) ≡ true → has n (numbers l) ≡ true → length (replied n s l) ≡ length l
unfolding rises has
replied_old n s [] r e = clash e refl
replied_old n s (x ∷ l) r e =
    let q = both (all (ltb x.number) (numbers l)) (rises (numbers l)) r in
    replied_case (λ (w : List Row). length w ≡ suc (length l)) n s x l
    (λ h.
    let d : eqb x.number n ≡ false = ne_eqb x.number n (λ (z : x.number ≡ n). omega arith) in
    let z = ltb-true x.number n (all_at (ltb x.number) (numbers l) n q.0 (rw d at e)) in
    absurd (omega arith))
    (λ h. refl)
    (λ h.
    let d : eqb x.number n ≡ false = ne_eqb x.number n (λ (z : x.number ≡ n). omega arith) in
    ap suc (replied_old n s l q.1 (rw d at e)))

pub replied_new : (n s : ℕ) (l : List Row) → has n (numbers l) ≡ false → length (replied n s l) ≡ suc (length l)
unfolding has
replied_new n s [] e = replied_first (λ (w : List Row). length w ≡ 1) n s refl
replied_new n s (x ∷ l) e =
    replied_case (λ (w : List Row). length w ≡ suc (suc (length l))) n s x l
    (λ h. refl)
    (λ h. clash (rw (eq-eqb x.number n (sym h))) e)
    (λ h.
    let d : eqb x.number n ≡ false = ne_eqb x.number n (λ (z : x.number ≡ n). omega arith) in
    ap suc (replied_new n s l (rw d at e)))

-- ---- how often a number counts for a slot
pub count_none : (l : List Row) (n s : ℕ) → has n (numbers l) ≡ false → count_in l n s ≡ 0
unfolding count_in has
count_none [] n s e = refl
count_none (r ∷ l) n s e =
    by_test _ (eqb r.number n) (λ y. clash (rw y) e) (λ y. rw y (count_none l n s (rw y at e)))

pub count_keep : (f : ℕ → Bool) (l : List Row) (n s : ℕ) → count_in (keep f l) n s ≡ cond (f n) (count_in l n s) 0
unfolding keep count_in
count_keep f [] n s = by_test _ (f n) (λ e. rw e) (λ e. rw e)
count_keep f (r ∷ l) n s =
    by_test _ (eqb r.number n)
    (λ e.
    let q : r.number ≡ n = eqb-true r.number n e in
    by_test _ (f n)
    (λ y. let z : f r.number ≡ true = ap f q ∙ y in rw (z, e, y))
    (λ y. let z : f r.number ≡ false = ap f q ∙ y in rw (z, y) (count_keep f l n s ∙ rw y)))
    (λ e.
    by_test _ (f r.number)
    (λ y. rw (y, e) (count_keep f l n s))
    (λ y. rw (y, e) (count_keep f l n s)))

pub blank : (l : List ℕ) (s : ℕ) → get_or (set l s 0) s 0 ≡ 0
blank l s =
    by_order _ s (length l) (get_or-set_same l s 0 0) (λ h.
    ap (λ (w : List ℕ). get_or w s 0) (set_out l s 0 h) ∙ get_or-eq_default l 0 {n = s} h)

pub count_ended_other : (s : ℕ) (l : List Row) (n u : ℕ) → (u ≡ s → ⊥) → count_in (ended s l) n u ≡ count_in l n u
unfolding ended count_in
count_ended_other s [] n u d = refl
count_ended_other s (r ∷ l) n u d =
    by_test _ (eqb r.number n)
    (λ e. rw e (get_or-set_other r.counts s u 0 0 d))
    (λ e. rw e (count_ended_other s l n u d))

-- a row with as many counts as there are slots
abbrev pub row_sized : Row → Bool
row_sized r = eqb (length r.counts) slot_count

abbrev pub no_counts : ℕ → List ℕ
no_counts k = replicate k 0

zeros : (k u : ℕ) → get_or (no_counts k) u 0 ≡ 0
zeros k u =
    by_order (get_or (no_counts k) u 0 ≡ 0) u k (get_or-replicate k u 0 0) (λ h.
    get_or-eq_default (no_counts k) 0 {n = u} (rw length-replicate h))

pub first_counts : (k s u : ℕ) → s < k → get_or (set (no_counts k) s 1) u 0 ≡ cond (eqb u s) 1 0
first_counts k s u h =
    by_test _ (eqb u s)
    (λ e.
    let q : u ≡ s = eqb-true u s e in
    rw (e, q) (get_or-set_same (no_counts k) s 1 0 (rw length-replicate h)))
    (λ e. rw e (get_or-set_other (no_counts k) s u 1 0 (eqb-false u s e) ∙ zeros k u))

-- a new row's
counted_first :
    (n s m u : ℕ) (c : List ℕ) (l : List Row) →
    get_or c u 0 ≡ cond (eqb u s) 1 0 →
    count_in l n u ≡ 0 →
    count_in (record { number = n; counts = c } ∷ l) m u ≡ cond (eqb n m && eqb u s) (suc (count_in l m u)) (count_in l m u)
unfolding count_in
counted_first n s m u c l e z =
    by_test _ (eqb n m)
    (λ y.
    let q : n ≡ m = eqb-true n m y in
    let z' : count_in l m u ≡ 0 = rw q at z in
    rw (y, e, z'))
    (λ y. rw y)

-- a row's that counts one more
counted_more :
    (r : Row) (s m u : ℕ) (l : List Row) →
    s < length r.counts →
    count_in (one_more r s ∷ l) m u
    ≡ cond (eqb r.number m && eqb u s) (suc (count_in (r ∷ l) m u)) (count_in (r ∷ l) m u)
unfolding count_in
counted_more r s m u l h =
    by_test _ (eqb r.number m)
    (λ y.
    by_test _ (eqb u s)
    (λ e.
    let q : u ≡ s = eqb-true u s e in
    rw (y, e, q) (get_or-set_same r.counts s (get_or r.counts s 0 + 1) 0 h ∙ (omega arith)))
    (λ e. rw (y, e) (get_or-set_other r.counts s u (get_or r.counts s 0 + 1) 0 (eqb-false u s e))))
    (λ y. rw y)

counted_past :
    (x : Row) (l w : List Row) (n s m u : ℕ) →
    x.number < n →
    count_in w m u ≡ cond (eqb n m && eqb u s) (suc (count_in l m u)) (count_in l m u) →
    count_in (x ∷ w) m u ≡ cond (eqb n m && eqb u s) (suc (count_in (x ∷ l) m u)) (count_in (x ∷ l) m u)
unfolding count_in
counted_past x l w n s m u h e =
    by_test _ (eqb x.number m)
    (λ y.
    let q : x.number ≡ m = eqb-true x.number m y in
    let d : eqb n m ≡ false = ne_eqb n m (λ (i : n ≡ m). omega arith) in
    rw (y, d))
    (λ y. rw y e)

below_none : (n k : ℕ) (l : List ℕ) → n ≤ k → all (ltb k) l ≡ true → has n l ≡ false
below_none n k l h a =
    by_test _ (has n l) (λ e. let z = ltb-true k n (all_at (ltb k) l n a e) in absurd (omega arith)) (λ e. e)

first_none : (x : Row) (l : List Row) (n : ℕ) → n < x.number → has n (numbers l) ≡ false → has n (numbers (x ∷ l)) ≡ false
unfolding has
first_none x l n h e = let d : eqb x.number n ≡ false = ne_eqb x.number n (λ (i : x.number ≡ n). omega arith) in rw d e

pub count_replied :
    (n s : ℕ) →
    s < slot_count →
    (l : List Row) →
    rises (numbers l) ≡ true →
    all row_sized l ≡ true →
    (m u : ℕ) →
    count_in (replied n s l) m u ≡ cond (eqb n m && eqb u s) (suc (count_in l m u)) (count_in l m u)
unfolding rises all has
count_replied n s h [] r z m u =
    replied_first (λ (w : List Row). count_in w m u ≡ cond (eqb n m && eqb u s) (suc (count_in [] m u)) (count_in [] m u)) n s
    (counted_first n s m u (set (no_counts slot_count) s 1) [] (first_counts slot_count s u h) (count_none [] n u refl))
count_replied n s h (x ∷ l) r z m u =
    let q = both (all (ltb x.number) (numbers l)) (rises (numbers l)) r in
    let y = both (row_sized x) (all row_sized l) z in
    replied_case
    (λ (w : List Row). count_in w m u ≡ cond (eqb n m && eqb u s) (suc (count_in (x ∷ l) m u)) (count_in (x ∷ l) m u))
    n s x l
    (λ a.
    counted_first n s m u (set (no_counts slot_count) s 1) (x ∷ l) (first_counts slot_count s u h)
    (count_none (x ∷ l) n u (first_none x l n a (below_none n x.number (numbers l) (omega arith) q.0))))
    (λ a.
    let e = counted_more x s m u l (let k = eqb-true (length x.counts) slot_count y.0 in omega arith) in
    e ∙ ap (λ (k : ℕ). cond (eqb k m && eqb u s) (suc (count_in (x ∷ l) m u)) (count_in (x ∷ l) m u)) (sym a))
    (λ a. counted_past x l (replied n s l) n s m u a (count_replied n s h l q.1 y.1 m u))
