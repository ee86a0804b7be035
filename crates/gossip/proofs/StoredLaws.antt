-- What some topic stores: where every topic stores as much, or more; and that no more numbers are stored than the windows have room for, so
-- that rows of stored numbers, none twice, are at most as many.
-- Assumes nothing.
use Prim.Native.Nat.{ℕ, zero, suc, ◌*◌, ◌<◌, ◌≤◌}
use native.Mathlib.Omega.{arith}
use mathlib.Core.Path.{◌≡◌, refl, sym, ap, ◌∙◌}
use mathlib.Core.Bool.{Bool, true, false, cond, not, ◌||◌}
use mathlib.Core.List.{List, [], ◌∷◌}
use lib.Dec.{eqb}
use lib.ListN.{length, length-append}
use borrow.Author.Tests.{eqb-true, eq-eqb, ne_eqb, leb-true, not-true}
use Rattle.index.specs.Index.{gather}
use Rattle.index.proofs.Index.{both}
use Rattle.index.proofs.Flags.{by_test, not_yes}
use Rattle.records.specs.Records.{topic_count}
use Rattle.gossip.specs.Notes.{Gossip, window_most, rows_most, store_in, has, stored_in, some, stored}
use Rattle.gossip.specs.Valid.{SizedGossip, all, apart, flat, window_ok}
use Rattle.gossip.proofs.ListLaws.{and_by, or_true, clash, has_append, all_at}

pub or_no : (a b : Bool) → a || b ≡ false → (a ≡ false) × (b ≡ false)
or_no true b e = clash refl e
or_no false b e = (refl, e)

-- ---- over the topics
pub some_same : (n : ℕ) (f g : ℕ → Bool) → ((i : ℕ) → i < n → f i ≡ g i) → some n f ≡ some n g
unfolding some
some_same zero f g h = refl
some_same (suc n) f g h = rw (h n (omega arith), some_same n f g (λ i l. h i (omega arith)))

-- what is stored stays so where no topic loses it
pub some_more : (n : ℕ) (f g : ℕ → Bool) → ((i : ℕ) → i < n → f i ≡ true → g i ≡ true) → some n g ≡ false → some n f ≡ false
unfolding some
some_more zero f g h e = refl
some_more (suc n) f g h e =
    let q = or_no (some n g) (g n) e in
    by_test _ (f n)
    (λ y. clash (h n (omega arith) y) q.1)
    (λ y. rw (y, some_more n f g (λ i l. h i (omega arith)) q.0))

module _ (g u : Gossip) (n : ℕ) where
  pub stored_same : ((t : ℕ) → t < topic_count → stored_in (store_in u t) n ≡ stored_in (store_in g t) n) → stored u n ≡ stored g n
  unfolding stored
  stored_same e = some_same topic_count (λ t. stored_in (store_in u t) n) (λ t. stored_in (store_in g t) n) e

  pub stored_more :
      ((t : ℕ) → t < topic_count → stored_in (store_in g t) n ≡ true → stored_in (store_in u t) n ≡ true) →
      stored g n ≡ true →
      stored u n ≡ true
  unfolding stored
  stored_more h e =
      by_test _ (some topic_count (λ t. stored_in (store_in u t) n)) (λ y. y) (λ y.
      clash e (some_more topic_count (λ t. stored_in (store_in g t) n) (λ t. stored_in (store_in u t) n) h y))

-- ---- a list of numbers, none twice, is no longer than a list that has them all
unfoldable without : ℕ → List ℕ → List ℕ
without n [] = []
without n (m ∷ l) = cond (eqb m n) l (m ∷ without n l)

without_length : (n : ℕ) (l : List ℕ) → has n l ≡ true → length l ≡ suc (length (without n l))
unfolding without has
without_length n [] e = clash e refl
without_length n (m ∷ l) e =
    by_test _ (eqb m n) (λ y. rw y) (λ y. rw y (ap suc (without_length n l (rw y at e))))

without_has : (n k : ℕ) (l : List ℕ) → has k l ≡ true → (k ≡ n → ⊥) → has k (without n l) ≡ true
unfolding without has
without_has n k [] e d = clash e refl
without_has n k (m ∷ l) e d =
    by_test _ (eqb m n)
    (λ y.
    let i : m ≡ n = eqb-true m n y in
    let z : eqb m k ≡ false = ne_eqb m k (λ (j : m ≡ k). d (sym j ∙ i)) in
    rw y (rw z at e))
    (λ y. rw y (by_test _ (eqb m k) (λ z. rw z) (λ z. rw z (without_has n k l (rw z at e) d))))

pub apart_fits : (l m : List ℕ) → apart l ≡ true → ((n : ℕ) → has n l ≡ true → has n m ≡ true) → length l ≤ length m
unfolding apart has
apart_fits [] m a h = omega arith
apart_fits (k ∷ l) m a h =
    let q = both (not (has k l)) (apart l) a in
    let out = not-true (has k l) q.0 in
    let z = without_length k m (h k (rw (eq-eqb k k refl))) in
    let i =
    apart_fits l (without k m) q.1 (λ n e.
    without_has k n m (h n (rw e (or_true (eqb k n)))) (λ (j : n ≡ k). clash e (rw j out))) in
    omega arith

-- ---- all that is stored, in one list
stored_has : (w : List (List ℕ)) (n : ℕ) → stored_in w n ≡ true → has n (flat w) ≡ true
unfolding stored_in flat has
stored_has [] n e = e
stored_has (w ∷ l) n e =
    has_append n w (flat l)
    ∙ by_test _ (has n w) (λ y. rw y) (λ y. rw y (stored_has l n (rw y at e)))

windows_length : (w : List (List ℕ)) → all window_ok w ≡ true → length (flat w) ≤ window_most * length w
unfolding flat all
windows_length [] a = omega arith
windows_length (w ∷ l) a =
    let q = both (window_ok w) (all window_ok l) a in
    let y = leb-true (length w) window_most q.0 in
    omega (arith, length-append w (flat l), windows_length l q.1)

gather_has : (k n : ℕ) (f : ℕ → List ℕ) → some k (λ t. has n (f t)) ≡ true → has n (gather k f) ≡ true
unfolding some gather has
gather_has zero n f e = e
gather_has (suc k) n f e =
    has_append n (gather k f) (f k)
    ∙ by_test _ (some k (λ t. has n (f t)))
    (λ y. rw (gather_has k n f y))
    (λ y. let z : has n (f k) ≡ true = rw y at e in rw z (or_true (has n (gather k f))))

gather_length : (k : ℕ) (f : ℕ → List ℕ) → ((t : ℕ) → t < k → length (f t) ≤ 320) → length (gather k f) ≤ k * 320
unfolding gather
gather_length zero f h = omega arith
gather_length (suc k) f h =
    let a = gather_length k f (λ t l. h t (omega arith)) in
    let b = h k (omega arith) in
    omega (arith, length-append (gather k f) (f k))

module _ (g : Gossip) (size : SizedGossip g) (fit : (t : ℕ) → t < topic_count → all window_ok (store_in g t) ≡ true) where
  abbrev whole : List ℕ
  whole = gather topic_count (λ t. flat (store_in g t))

  whole_length : length whole ≤ rows_most
  whole_length =
      gather_length topic_count (λ t. flat (store_in g t)) (λ t l.
      let a = windows_length (store_in g t) (fit t l) in
      let b = size.windows t in
      omega arith)

  whole_has : (n : ℕ) → stored g n ≡ true → has n whole ≡ true
  unfolding stored
  whole_has n e =
      gather_has topic_count n (λ t. flat (store_in g t))
      (by_test _ (some topic_count (λ t. has n (flat (store_in g t)))) (λ y. y) (λ y.
      clash e
      (some_more topic_count (λ t. stored_in (store_in g t) n) (λ t. has n (flat (store_in g t))) (λ t l. stored_has (store_in g t) n) y)))

  -- stored numbers, none twice
  pub few_stored : (l : List ℕ) → apart l ≡ true → all (stored g) l ≡ true → length l ≤ rows_most
  few_stored l a e =
      let z = apart_fits l whole a (λ n h. whole_has n (all_at (stored g) l n e h)) in
      omega (arith, whole_length)

  -- and as many as fit with a further stored one
  pub fewer_stored :
      (l : List ℕ) (n : ℕ) →
      apart l ≡ true →
      all (stored g) l ≡ true →
      stored g n ≡ true →
      has n l ≡ false →
      length l < rows_most
  unfolding apart all
  fewer_stored l n a e s out = let z = few_stored (n ∷ l) (and_by (not_yes out) a) (and_by s e) in omega arith
