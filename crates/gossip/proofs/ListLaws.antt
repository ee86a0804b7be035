-- Lists of numbers: what stands in them, how often, and in which order, after the changes that sets, replies and stores go through.
-- Assumes nothing.
use Prim.Native.Nat.{ℕ, zero, suc, ◌+◌, ◌≤◌}
use native.Mathlib.Omega.{arith}
use mathlib.Core.Path.{◌≡◌, refl, sym, ap, ◌∙◌}
use mathlib.Core.Bool.{Bool, true, false, not, ◌&&◌, ◌||◌}
use mathlib.Core.List.{List, [], ◌∷◌, ◌++◌, map}
use lib.Dec.{eqb, ltb}
use lib.ListN.{length, take}
use borrow.Author.Tests.{eqb-true, eqb-false, eq-eqb, le-leb, ltb-true, ltb-false, lt-ltb, not-true}
use Rattle.index.proofs.Index.{both}
use Rattle.index.proofs.Flags.{by_test, not_yes}
use Rattle.sets.specs.Sets.{occurs}
use Rattle.gossip.specs.Notes.{Entry, has, number_of, stored_in, put_in, last_age, aged, added}
use Rattle.gossip.specs.Valid.{all, rises, apart, flat, entry_ok, window_ok}

pub and_by : {a b : Bool} → a ≡ true → b ≡ true → a && b ≡ true
and_by {a} {b} e f = rw e f

pub or_true : (b : Bool) → b || true ≡ true
or_true true = refl
or_true false = refl

pub clash : {A : Type 0} {b : Bool} → b ≡ true → b ≡ false → A
clash e f = let z : ◌≡◌ {A = ℕ} 0 1 = cc in absurd (omega arith)

-- ---- what stands in a list: it occurs there
pub has_occurs : (n : ℕ) (l : List ℕ) → has n l ≡ true → 1 ≤ occurs n l
unfolding has occurs
has_occurs n [] e = clash e refl
has_occurs n (m ∷ l) e =
    by_test _ (eqb m n)
    (λ y. rw y (omega arith))
    (λ y. rw y (has_occurs n l (rw y at e)))

pub has_not : (n : ℕ) (l : List ℕ) → has n l ≡ false → occurs n l ≡ 0
unfolding has occurs
has_not n [] e = refl
has_not n (m ∷ l) e =
    by_test _ (eqb m n)
    (λ y. clash (rw y) e)
    (λ y. rw y (has_not n l (rw y at e)))

pub has_append : (n : ℕ) (a b : List ℕ) → has n (a ++ b) ≡ has n a || has n b
unfolding has
has_append n [] b = refl
has_append n (m ∷ a) b = by_test _ (eqb m n) (λ e. rw e) (λ e. rw e (has_append n a b))

-- ---- every element
pub all_then : {A : Type 0} (f g : A → Bool) (l : List A) → ((a : A) → f a ≡ true → g a ≡ true) → all f l ≡ true → all g l ≡ true
unfolding all
all_then f g [] h e = refl
all_then f g (a ∷ l) h e = let q = both (f a) (all f l) e in and_by (h a q.0) (all_then f g l h q.1)

module _ (f : ℕ → Bool) where
  pub all_at : (l : List ℕ) (n : ℕ) → all f l ≡ true → has n l ≡ true → f n ≡ true
  unfolding all has
  all_at [] n a e = clash e refl
  all_at (m ∷ l) n a e =
      let q = both (f m) (all f l) a in
      by_test _ (eqb m n)
      (λ y. let i : m ≡ n = eqb-true m n y in rw i at q.0)
      (λ y. all_at l n q.1 (rw y at e))

  pub all_by : (l : List ℕ) → ((n : ℕ) → has n l ≡ true → f n ≡ true) → all f l ≡ true
  unfolding all has
  all_by [] h = refl
  all_by (m ∷ l) h =
      and_by (h m (rw (eq-eqb m m refl))) (all_by l (λ n e. h n (by_test _ (eqb m n) (λ y. rw y) (λ y. rw y e))))

-- ---- none twice: each occurs at most once
pub apart_at : (l : List ℕ) → apart l ≡ true → (n : ℕ) → occurs n l ≤ 1
unfolding apart occurs
apart_at [] a n = omega arith
apart_at (m ∷ l) a n =
    let q = both (not (has m l)) (apart l) a in
    by_test _ (eqb m n)
    (λ y.
    let i : m ≡ n = eqb-true m n y in
    let z : occurs n l ≡ 0 = rw i at (has_not m l (not-true (has m l) q.0)) in
    rw (y, z) (omega arith))
    (λ y. rw y (apart_at l q.1 n))

pub apart_by : (l : List ℕ) → ((n : ℕ) → occurs n l ≤ 1) → apart l ≡ true
unfolding apart occurs
apart_by [] h = refl
apart_by (m ∷ l) h =
    let first : not (has m l) ≡ true =
    by_test _ (has m l)
    (λ e.
    let a = has_occurs m l e in
    let b : suc (occurs m l) ≤ 1 = rw (eq-eqb m m refl) at (h m) in
    absurd (omega arith))
    (λ e. rw e) in
    and_by first
    (apart_by l (λ n. by_test _ (eqb m n) (λ y. let b : suc (occurs n l) ≤ 1 = rw y at (h n) in omega arith) (λ y. rw y at (h n))))

pub occurs_append : (n : ℕ) (a b : List ℕ) → occurs n (a ++ b) ≡ occurs n a + occurs n b
unfolding occurs
occurs_append n [] b = omega arith
occurs_append n (m ∷ a) b =
    by_test _ (eqb m n)
    (λ y. rw y (omega (arith, occurs_append n a b)))
    (λ y. rw y (occurs_append n a b))

-- ---- stores
pub stored_flat : (w : List (List ℕ)) (n : ℕ) → stored_in w n ≡ false → occurs n (flat w) ≡ 0
unfolding stored_in flat occurs
stored_flat [] n e = refl
stored_flat (w ∷ l) n e =
    by_test _ (has n w)
    (λ y. clash (rw y) e)
    (λ y.
    let a = has_not n w y in
    let b = stored_flat l n (rw y at e) in
    omega (arith, occurs_append n w (flat l)))

pub occurs_added : (m n : ℕ) (w : List (List ℕ)) → occurs n (flat (added m w)) ≤ occurs n (flat w) + occurs n (m ∷ [])
unfolding flat added
occurs_added m n [] = omega arith
occurs_added m n (w ∷ l) =
    omega (arith, occurs_append n (w ++ (m ∷ [])) (flat l), occurs_append n w (m ∷ []), occurs_append n w (flat l))

pub occurs_take : (k n : ℕ) (w : List (List ℕ)) → occurs n (flat (take k w)) ≤ occurs n (flat w)
unfolding flat occurs
occurs_take zero n w = omega arith
occurs_take (suc k) n [] = omega arith
occurs_take (suc k) n (w ∷ l) =
    omega (arith, occurs_append n w (flat (take k l)), occurs_append n w (flat l), occurs_take k n l)

pub windows_take : (k : ℕ) (w : List (List ℕ)) → all window_ok w ≡ true → all window_ok (take k w) ≡ true
unfolding all
windows_take zero w a = refl
windows_take (suc k) [] a = refl
windows_take (suc k) (w ∷ l) a = let q = both (window_ok w) (all window_ok l) a in and_by q.0 (windows_take k l q.1)

-- a rising list has none twice
pub rises_apart : (l : List ℕ) → rises l ≡ true → apart l ≡ true
unfolding rises apart
rises_apart [] r = refl
rises_apart (n ∷ l) r =
    let q = both (all (ltb n) l) (rises l) r in
    and_by
    (by_test _ (has n l) (λ e. let z = ltb-true n n (all_at (ltb n) l n q.0 e) in absurd (omega arith)) (λ e. not_yes e))
    (rises_apart l q.1)

-- ---- sets
pub all_map : (f : ℕ → Bool) (l : List Entry) → all (λ e. f e.number) l ≡ all f (map number_of l)
unfolding all
all_map f [] = refl
all_map f (e ∷ l) = rw (all_map f l)

pub put_length : (n : ℕ) (l : List Entry) → length (put_in n l) ≡ suc (length l)
unfolding put_in
put_length n [] = refl
put_length n (e ∷ l) = by_test _ (ltb n e.number) (λ y. rw y) (λ y. rw y (ap suc (put_length n l)))

pub put_all :
    (f : Entry → Bool) (n : ℕ) (l : List Entry) →
    f (record { number = n; age = 0 }) ≡ true →
    all f l ≡ true →
    all f (put_in n l) ≡ true
unfolding put_in all
put_all f n [] e a = and_by e refl
put_all f n (x ∷ l) e a =
    let q = both (f x) (all f l) a in
    by_test _ (ltb n x.number)
    (λ y. rw y (and_by e a))
    (λ y. rw y (and_by q.0 (put_all f n l e q.1)))

-- a number above all before it and below all behind it
pub put_rises :
    (n : ℕ) (l : List Entry) →
    has n (map number_of l) ≡ false →
    rises (map number_of l) ≡ true →
    rises (map number_of (put_in n l)) ≡ true
unfolding put_in rises all has
put_rises n [] h r = refl
put_rises n (x ∷ l) h r =
    let q = both (all (ltb x.number) (map number_of l)) (rises (map number_of l)) r in
    by_test _ (ltb n x.number)
    (λ y.
    rw y
    (and_by
    (and_by y (all_by (ltb n) (map number_of l) (λ k e.
    let a = ltb-true x.number k (all_at (ltb x.number) (map number_of l) k q.0 e) in
    let b = ltb-true n x.number y in
    lt-ltb n k (omega arith))))
    r))
    (λ y.
    by_test _ (eqb x.number n)
    (λ i. clash (rw i) h)
    (λ i.
    let below : ltb x.number n ≡ true =
    lt-ltb x.number n (let a = ltb-false n x.number y in let b = eqb-false x.number n i in omega (arith, b)) in
    rw y
    (and_by
    (sym (all_map (ltb x.number) (put_in n l))
    ∙ put_all (λ e. ltb x.number e.number) n l below (all_map (ltb x.number) l ∙ q.0))
    (put_rises n l (rw i at h) q.1))))

pub aged_length : (l : List Entry) → length (aged l) ≤ length l
unfolding aged
aged_length [] = omega arith
aged_length (e ∷ l) =
    let z = aged_length l in
    by_test _ (ltb e.age last_age) (λ y. rw y (omega arith)) (λ y. rw y (omega arith))

-- what holds of the numbers holds of those that stay
pub aged_all : (f : ℕ → Bool) (l : List Entry) → all f (map number_of l) ≡ true → all f (map number_of (aged l)) ≡ true
unfolding aged all
aged_all f [] a = refl
aged_all f (e ∷ l) a =
    let q = both (f e.number) (all f (map number_of l)) a in
    by_test _ (ltb e.age last_age)
    (λ y. rw y (and_by q.0 (aged_all f l q.1)))
    (λ y. rw y (aged_all f l q.1))

pub aged_rises : (l : List Entry) → rises (map number_of l) ≡ true → rises (map number_of (aged l)) ≡ true
unfolding aged rises
aged_rises [] r = refl
aged_rises (e ∷ l) r =
    let q = both (all (ltb e.number) (map number_of l)) (rises (map number_of l)) r in
    by_test _ (ltb e.age last_age)
    (λ y. rw y (and_by (aged_all (ltb e.number) l q.0) (aged_rises l q.1)))
    (λ y. rw y (aged_rises l q.1))

pub aged_entries : (l : List Entry) → all entry_ok l ≡ true → all entry_ok (aged l) ≡ true
unfolding aged all
aged_entries [] a = refl
aged_entries (e ∷ l) a =
    let q = both (entry_ok e) (all entry_ok l) a in
    by_test _ (ltb e.age last_age)
    (λ y.
    rw y (and_by (le-leb (e.age + 1) 2 (let z = ltb-true e.age 2 y in omega arith)) (aged_entries l q.1)))
    (λ y. rw y (aged_entries l q.1))
