-- Laws of the view: a window's numbers, a topic's windows, the topics' stores.
-- Assumes nothing.
use Prim.Native.Nat.{ℕ, ◌+◌, ◌*◌, ◌-◌, ◌≤◌, ◌<◌}
use native.Mathlib.Omega.{arith}
use mathlib.Core.Bool.{Bool, true, false, ◌||◌}
use mathlib.Core.List.{List, []}
use mathlib.Core.Path.{◌≡◌, refl, sym, ap, ◌∙◌}
use lib.ListN.{length, get_or, set, take, drop, replicate, get_or-eq_default, length-take, length-drop}
use lib.Seq.{ext_get_or, get_or-take, get_or-drop, take-take}
use Rattle.index.proofs.Flags.{by_order}
use Rattle.records.specs.Records.{topic_count}
use Rattle.layout.proofs.RowLaws.{length_tab, get_or_tab, tab_same, tab_set}
use Rattle.layout.specs.Rows.{tab}
use Rattle.gossip.specs.Notes.{Gossip, window_count, window_most, no_store, has, stored_in, some, stored, store_in}
use Rattle.stores.specs.View.{all_windows, stores_cells, start_of, count_at, window_at, five_at, stores_of, store_at, stored_at, Window}
use Rattle.stores.specs.View.{Windows, Changed}
use Rattle.stores.proofs.HasLaws.{some_runs, some_same}

-- ---- a window

pub length_window : (c : List ℕ) (p : ℕ) → length (window_at c p) ≡ count_at c p
unfolding window_at
length_window c p = length_tab (count_at c p) (λ k. get_or c (start_of p + k) 0)

pub window_get_or : (c : List ℕ) (p k : ℕ) → k < count_at c p → get_or (window_at c p) k 0 ≡ get_or c (start_of p + k) 0
unfolding window_at
window_get_or c p k h = get_or_tab (count_at c p) (λ j. get_or c (start_of p + j) 0) k 0 h

-- two windows of the same numbers
pub window_like :
    (c d : List ℕ) (p q : ℕ) →
    count_at d q ≡ count_at c p →
    ((k : ℕ) → k < count_at c p → get_or d (start_of q + k) 0 ≡ get_or c (start_of p + k) 0) →
    window_at d q ≡ window_at c p
unfolding window_at
window_like c d p q e h =
    ap (λ (n : ℕ). tab n (λ k. get_or d (start_of q + k) 0)) e
    ∙ tab_same (count_at c p) (λ k. get_or d (start_of q + k) 0) (λ k. get_or c (start_of p + k) 0) h

pub window_none : (c : List ℕ) (p : ℕ) → count_at c p ≡ 0 → window_at c p ≡ []
unfolding window_at
window_none c p e = rw e

-- as the part of the cells that it is
pub window_slice : (c : List ℕ) (p : ℕ) → Window c p → window_at c p ≡ take (count_at c p) (drop (start_of p) c)
window_slice c p h =
    let n = count_at c p in
    let w : n ≤ window_most = h.most in
    let s : length c ≡ stores_cells = h.cells in
    let l : p < all_windows = h.low in
    let z : length (take n (drop (start_of p) c)) ≡ n = simp (length-take, length-drop) (omega arith) in
    ext_get_or 0 (window_at c p) (take n (drop (start_of p) c)) (length_window c p ∙ sym z)
    (λ i b.
    let b' : i < n = rw (← length_window c p) b in
    window_get_or c p i b'
    ∙ sym (get_or-take n (drop (start_of p) c) i 0 b' ∙ get_or-drop (start_of p) c i 0))

-- the same, as code lends it
pub window_part :
    {c : List ℕ} {p a n : ℕ} → Window c p → a ≡ start_of p → n ≡ count_at c p → take (a + n - a) (drop a c) ≡ window_at c p
window_part {c} {p} {a} {n} h e f =
    let z : a + n - a ≡ count_at c p = omega arith in
    rw (z, e) (sym (window_slice c p h))

pub window_front :
    {c : List ℕ} {p a : ℕ} (k : ℕ) →
    Window c p →
    k ≤ count_at c p →
    a ≡ start_of p →
    take (a + k - a) (drop a c) ≡ take k (window_at c p)
window_front {c} {p} {a} k h l e =
    let z : a + k - a ≡ k = omega arith in
    rw (z, e, window_slice c p h) (sym (take-take k (count_at c p) (drop (start_of p) c) l))

-- ---- a topic's windows

pub five_none : (c : List ℕ) (t : ℕ) → ((w : ℕ) → w < window_count → count_at c (t * window_count + w) ≡ 0) → five_at c t ≡ no_store
unfolding five_at
five_none c t h = tab_same window_count _ (λ w. []) (λ w l. window_none c (t * window_count + w) (h w l))

pub five_same :
    (c d : List ℕ) (t : ℕ) →
    ((w : ℕ) → w < window_count → window_at d (t * window_count + w) ≡ window_at c (t * window_count + w)) →
    five_at d t ≡ five_at c t
unfolding five_at
five_same c d t h = tab_same window_count _ _ h

-- ---- the stores

pub store_five : (c : List ℕ) (t : ℕ) → t < topic_count → store_at c t ≡ five_at c t
unfolding stores_of
store_five c t h = get_or_tab topic_count (five_at c) t no_store h

pub length_stores : (c : List ℕ) → length (stores_of c) ≡ topic_count
unfolding stores_of
length_stores c = length_tab topic_count (five_at c)

length_five : (c : List ℕ) (t : ℕ) → length (five_at c t) ≡ window_count
unfolding five_at
length_five c t = refl

pub length_store : (c : List ℕ) (t : ℕ) → length (store_at c t) ≡ window_count
length_store c t =
    by_order _ t topic_count
    (λ l. ap length (store_five c t l) ∙ length_five c t)
    (λ l. ap length (get_or-eq_default (stores_of c) no_store (rw length_stores l)))

pub stores_none : (c : List ℕ) → ((p : ℕ) → p < all_windows → count_at c p ≡ 0) → stores_of c ≡ replicate topic_count no_store
unfolding stores_of
stores_none c h =
    tab_same topic_count (five_at c) (λ t. no_store) (λ t l. five_none c t (λ w b. h (t * window_count + w) (omega arith)))

pub windows_none :
    (c : List ℕ) → length c ≡ stores_cells → ((p : ℕ) → p < all_windows → count_at c p ≡ 0) → Windows c
windows_none c s h = record { cells = s; most = λ p l. let e : count_at c p ≡ 0 = h p l in omega arith }

-- one topic's windows replaced
pub changed_stores :
    (c d : List ℕ) (t : ℕ) (s : List (List ℕ)) → Changed c d t s → stores_of d ≡ set (stores_of c) t s
unfolding stores_of
changed_stores c d t s h = tab_set topic_count (five_at c) (five_at d) t s h.here h.others

-- ---- who stores a number

pub stored_five : (c : List ℕ) (t n : ℕ) → stored_in (five_at c t) n ≡ some window_count (λ w. has n (window_at c (t * window_count + w)))
unfolding five_at stored_in some
stored_five c t n =
    go (f 0) (f 1) (f 2) (f 3) (f 4)
  where
    f : ℕ → Bool
    f w = has n (window_at c (t * window_count + w))

    go : (a b c d e : Bool) → a || (b || (c || (d || (e || false)))) ≡ ((((false || a) || b) || c) || d) || e
    go true b c d e = refl
    go false true c d e = refl
    go false false true d e = refl
    go false false false true e = refl
    go false false false false true = refl
    go false false false false false = refl

pub stored_store :
    (c : List ℕ) (t n : ℕ) → t < topic_count → stored_in (store_at c t) n ≡ some window_count (λ w. has n (window_at c (t * window_count + w)))
stored_store c t n h = ap (λ (s : List (List ℕ)). stored_in s n) (store_five c t h) ∙ stored_five c t n

-- window by window, whatever the topic
pub stored_all : (c : List ℕ) (n : ℕ) → stored_at c n ≡ some all_windows (λ p. has n (window_at c p))
unfolding stored_at
stored_all c n =
    some_same (λ t. stored_in (store_at c t) n) (λ t. some window_count (λ w. has n (window_at c (t * window_count + w)))) topic_count
    (λ t l. stored_store c t n l)
    ∙ sym (some_runs (λ p. has n (window_at c p)) topic_count window_count)

-- of a state that holds these stores
pub stored_state : (g : Gossip) (c : List ℕ) → g.stores ≡ stores_of c → (n : ℕ) → stored g n ≡ stored_at c n
unfolding stored stored_at store_in
stored_state g c e n = ap (λ (l : List (List (List ℕ))). some topic_count (λ t. stored_in (get_or l t no_store) n)) e

-- the same as functions, for what takes one
pub stored_is : (g : Gossip) (c : List ℕ) → g.stores ≡ stores_of c → stored g ≡ stored_at c
stored_is g c e = λ i n. stored_state g c e n i
