-- Sets made by index: their numbers, the tests of them, a number put in, a heartbeat.
-- By induction on the length; that neighbours rise is that each rises above all before it.
-- Assumes nothing.
use Prim.Native.Nat.{ℕ, zero, suc, ◌+◌, ◌-◌, ◌≤◌, ◌<◌}
use mathlib.Core.Path.{◌≡◌, refl, sym, ap, ◌∙◌}
use mathlib.Core.Bool.{Bool, true, false, cond, ◌&&◌, and-false}
use mathlib.Core.List.{List, [], ◌∷◌, ◌++◌, map}
use native.Mathlib.Nat.{le_antisymm, not-suc-le-zero, le_of_suc-le-suc, zero-lt-suc}
use native.Mathlib.Numerals.{add-one}
use native.Mathlib.Omega.{arith}
use lib.Dec.{eqb, leb, ltb, eqb-suc-zero}
use lib.ListN.{length, get_or, take, drop, length-take, length-drop}
use lib.Seq.{ext_get_or, get_or-take, get_or-drop}
use borrow.Author.Tests.{ltb-true, lt-ltb, le-ltb}
use Rattle.index.specs.Index.{every}
use Rattle.index.proofs.Index.{every_at, every_by, every_fails}
use Rattle.index.proofs.Flags.{by_test}
use Rattle.layout.specs.Rows.{tab}
use Rattle.layout.proofs.RowLaws.{length_tab, get_or_tab, tab_same}
use Rattle.gossip.specs.Notes.{Entry, put_in, older, aged}
use Rattle.gossip.specs.Valid.{all, none, rises}
use Rattle.notes.specs.View.{digit, numbers_in}

-- ---- lists made by index

pub map_tab : {A B : Type 0} (h : A → B) (n : ℕ) (f : ℕ → A) → map h (tab n f) ≡ tab n (λ k. h (f k))
map_tab h zero f = refl
map_tab h (suc n) f = ap (λ l. h (f zero) ∷ l) (map_tab h n (λ k. f (suc k)))

pub tab_more : {A : Type 0} (n : ℕ) (f : ℕ → A) → tab (suc n) f ≡ tab n f ++ (f n ∷ [])
tab_more zero f = refl
tab_more (suc n) f = ap (λ l. f zero ∷ l) (tab_more n (λ k. f (suc k)))

pub none_tab : {A : Type 0} (n : ℕ) (f : ℕ → A) → none (tab n f) ≡ eqb n 0
none_tab zero f = refl
none_tab (suc n) f = sym (eqb-suc-zero n)

-- ---- tests from the front

every_first : (n : ℕ) (f : ℕ → Bool) → every (suc n) f ≡ (f 0 && every n (λ k. f (suc k)))
unfolding every
every_first zero f = go (f 0)
  where
    go : (b : Bool) → (true && b) ≡ (b && true)
    go true = refl
    go false = refl
every_first (suc n) f =
    ap (λ b. b && f (suc n)) (every_first n f) ∙ go (f 0) (every n (λ k. f (suc k))) (f (suc n))
  where
    go : (a b e : Bool) → ((a && b) && e) ≡ (a && (b && e))
    go true b e = refl
    go false b e = refl

pub all_tab : {A : Type 0} (p : A → Bool) (n : ℕ) (f : ℕ → A) → all p (tab n f) ≡ every n (λ k. p (f k))
unfolding all every
all_tab p zero f = refl
all_tab p (suc n) f =
    ap (λ b. p (f zero) && b) (all_tab p n (λ k. f (suc k))) ∙ sym (every_first n (λ k. p (f k)))

-- ---- numbers that rise

pub next_above : (ℕ → ℕ) → ℕ → Bool
next_above f k = ltb (f k) (f (suc k))

climb : (f : ℕ → ℕ) (m k : ℕ) → every m (next_above f) ≡ true → k ≤ m → f 0 ≤ f k
unfolding next_above
climb f m zero e h = omega arith
climb f m (suc k) e h =
    let l : f 0 ≤ f k = climb f m k e (omega arith) in
    let t : f k < f (suc k) = ltb-true (f k) (f (suc k)) (every_at (next_above f) m k e (omega arith)) in
    omega arith

-- the first is below all others if it is below the second and the others rise
first_below : (f : ℕ → ℕ) (m : ℕ) → every m (next_above (λ k. f (suc k))) ≡ true
    → every (suc m) (λ k. ltb (f 0) (f (suc k))) ≡ ltb (f 0) (f 1)
first_below f m e =
    by_test (every (suc m) (λ k. ltb (f 0) (f (suc k))) ≡ ltb (f 0) (f 1)) (ltb (f 0) (f 1))
    (λ t.
    every_by (λ k. ltb (f 0) (f (suc k))) (suc m)
    (λ k l.
    let a : f 0 < f 1 = ltb-true (f 0) (f 1) t in
    let b : f 1 ≤ f (suc k) = climb (λ j. f (suc j)) m k e (le_of_suc-le-suc l) in
    lt-ltb (f 0) (f (suc k)) (omega arith))
    ∙ sym t)
    (λ t. every_fails (λ k. ltb (f 0) (f (suc k))) (suc m) 0 (zero-lt-suc m) t ∙ sym t)

rises_more : (m : ℕ) (f : ℕ → ℕ) → rises (tab (suc m) f) ≡ every m (next_above f)
unfolding rises all every next_above
rises_more zero f = refl
rises_more (suc m) f =
    let g : ℕ → ℕ = λ k. f (suc k) in
    let i : rises (tab (suc m) g) ≡ every m (next_above g) = rises_more m g in
    let a : all (ltb (f 0)) (tab (suc m) g) ≡ every (suc m) (λ k. ltb (f 0) (g k)) = all_tab (ltb (f 0)) (suc m) g in
    let e : every (suc m) (next_above f) ≡ (ltb (f 0) (f 1) && every m (next_above g)) = every_first m (next_above f) in
    (λ j. a j && i j)
    ∙ go (every (suc m) (λ k. ltb (f 0) (g k))) (ltb (f 0) (f 1)) (every m (next_above g)) (first_below f m)
    ∙ sym e
  where
    go : (a b e : Bool) → (e ≡ true → a ≡ b) → (a && e) ≡ (b && e)
    go a b true h = ap (λ t. t && true) (h refl)
    go a b false h = and-false a ∙ sym (and-false b)

pub rises_tab : (n : ℕ) (f : ℕ → ℕ) → rises (tab n f) ≡ every (n - 1) (next_above f)
unfolding rises every
rises_tab zero f = refl
rises_tab (suc m) f =
    let e : suc m - 1 ≡ m = omega arith in
    rises_more m f ∙ ap (λ (n : ℕ). every n (next_above f)) (sym e)

-- ---- a number put in

abbrev fresh : ℕ → Entry
fresh x = record { number = x; age = 0 }

-- g is f with a new entry at p, which f's numbers leave it
pub record PutAt (f g : ℕ → Entry) (n p x : ℕ) : Type 0 where
  pub before : (k : ℕ) → k < p → g k ≡ f k
  pub here : g p ≡ fresh x
  pub after : (k : ℕ) → p ≤ k → k < n → g (suc k) ≡ f k
  pub low : (k : ℕ) → k < p → (f k).number ≤ x
  pub high : p < n → x < (f p).number

pub put_tab : (n p x : ℕ) (f g : ℕ → Entry) → p ≤ n → PutAt f g n p x → tab (suc n) g ≡ put_in x (tab n f)
unfolding put_in
put_tab zero zero x f g h a = ap (λ e. e ∷ []) a.here
put_tab zero (suc p) x f g h a = absurd (not-suc-le-zero h)
put_tab (suc n) zero x f g h a =
    let t : ltb x (f 0).number ≡ true = lt-ltb x (f 0).number (a.high (zero-lt-suc n)) in
    (λ i. a.here i ∷ tab_same (suc n) (λ k. g (suc k)) f (λ k l. a.after k (omega arith) l) i)
    ∙ (rw t refl)
put_tab (suc n) (suc p) x f g h a =
    let t : ltb x (f 0).number ≡ false = le-ltb x (f 0).number (a.low 0 (zero-lt-suc p)) in
    (λ i. a.before 0 (zero-lt-suc p) i ∷ put_tab n p x (λ k. f (suc k)) (λ k. g (suc k)) (le_of_suc-le-suc h) (later a) i)
    ∙ (rw t refl)
  where
    later : PutAt f g (suc n) (suc p) x → PutAt (λ k. f (suc k)) (λ k. g (suc k)) n p x
    later a =
        record {
          before = λ k l. a.before (suc k) (omega arith);
          here = a.here;
          after = λ k l m. a.after (suc k) (omega arith) (omega arith);
          low = λ k l. a.low (suc k) (omega arith);
          high = λ l. a.high (omega arith);
        }

-- ---- a heartbeat

aged_append : (a b : List Entry) → aged (a ++ b) ≡ aged a ++ aged b
unfolding aged
aged_append [] b = refl
aged_append (e ∷ a) b = ap (older e) (aged_append a b) ∙ go (ltb e.age 2)
  where
    go : (t : Bool)
        → cond t (record { number = e.number; age = e.age + 1 } ∷ (aged a ++ aged b)) (aged a ++ aged b)
        ≡ cond t (record { number = e.number; age = e.age + 1 } ∷ aged a) (aged a) ++ aged b
    go true = refl
    go false = refl

pub aged_more : (n : ℕ) (f : ℕ → Entry) → aged (tab (suc n) f) ≡ aged (tab n f) ++ older (f n) []
unfolding aged
aged_more n f = ap aged (tab_more n f) ∙ aged_append (tab n f) (f n ∷ [])

-- ---- the tests as loops that count up

pub every_start : (f : ℕ → Bool) → true ≡ every 0 f
unfolding every
every_start f = refl

every_step : (f : ℕ → Bool) (i : ℕ) (b : Bool) → b ≡ every i f → (b && f i) ≡ every (i + 1) f
unfolding every
every_step f i b e = rw (add-one i) (ap (λ t. t && f i) e)

pub numbers_part : (c : List ℕ) (at n : ℕ) → at + n ≤ length c → take (at + n - at) (drop at c) ≡ numbers_in c at n
unfolding numbers_in
numbers_part c at n h =
    let z : at + n - at ≡ n = omega arith in
    let e : length (take n (drop at c)) ≡ n = simp (length-take, length-drop) (omega arith) in
    ap (λ (m : ℕ). take m (drop at c)) z
    ∙ ext_get_or 0 (take n (drop at c)) (tab n (λ k. get_or c (at + k) 0)) (e ∙ sym (length_tab n (λ k. get_or c (at + k) 0)))
    (λ k b.
    let l : k < n = rw e at b in
    get_or-take n (drop at c) k 0 l ∙ get_or-drop at c k 0 ∙ sym (get_or_tab n (λ j. get_or c (at + j) 0) k 0 l))

pub ages_more : (ages k r : ℕ) (b : Bool) → b ≡ every k (λ j. leb (digit ages j) 2) → r ≡ digit ages k
    → (b && leb r 2) ≡ every (k + 1) (λ j. leb (digit ages j) 2)
ages_more ages k r b e d = ap (λ (m : ℕ). b && leb m 2) d ∙ every_step (λ j. leb (digit ages j) 2) k b e

pub ages_done : (ages n k : ℕ) (b : Bool) → k ≤ n → n ≤ k → b ≡ every k (λ j. leb (digit ages j) 2)
    → b ≡ every n (λ j. leb (digit ages j) 2)
ages_done ages n k b l h e = e ∙ ap (λ (m : ℕ). every m (λ j. leb (digit ages j) 2)) (le_antisymm l h)

-- the numbers from `at` on
abbrev pub cells_from : List ℕ → ℕ → ℕ → ℕ
cells_from c at k = get_or c (at + k) 0

pub rises_step : (c : List ℕ) (at k : ℕ) (b : Bool) → 1 ≤ k → b ≡ every (k - 1) (next_above (cells_from c at))
    → (b && ltb (get_or c (at + k - 1) 0) (get_or c (at + k) 0)) ≡ every (k + 1 - 1) (next_above (cells_from c at))
unfolding next_above
rises_step c at k b h e =
    let p : at + k - 1 ≡ at + (k - 1) = omega arith in
    let q : at + k ≡ at + suc (k - 1) = omega arith in
    let r : k - 1 + 1 ≡ k + 1 - 1 = omega arith in
    (λ i. b && ltb (get_or c (p i) 0) (get_or c (q i) 0))
    ∙ every_step (next_above (cells_from c at)) (k - 1) b e
    ∙ ap (λ (m : ℕ). every m (next_above (cells_from c at))) r

pub rises_done : (c : List ℕ) (at n k : ℕ) (b : Bool) → k ≤ n - 1 → n ≤ k + 1 → b ≡ every k (next_above (cells_from c at))
    → b ≡ rises (numbers_in c at n)
unfolding numbers_in
rises_done c at n k b l h e =
    let q : k ≡ n - 1 = omega arith in
    e ∙ ap (λ (m : ℕ). every m (next_above (cells_from c at))) q ∙ sym (rises_tab n (cells_from c at))
