-- What the windows are after cells have changed: one number more, none, each in place of the one behind it.
-- Assumes nothing.
use Prim.Native.Nat.{ℕ, zero, suc, ◌+◌, ◌*◌, ◌-◌, ◌≤◌, ◌<◌}
use native.Mathlib.Nat.{add-zero, not-suc-le-zero}
use native.Mathlib.Numerals.{add-one}
use native.Mathlib.Omega.{arith}
use mathlib.Core.List.{List, [], ◌∷◌, ◌++◌, map}
use mathlib.Core.Logic.{◌≢◌}
use mathlib.Core.Path.{◌≡◌, refl, sym, ap, ◌∙◌}
use lib.ListN.{length, get_or, set, length-set}
use lib.Seq.{get_or-set_same, get_or-set_other}
use borrow.Author.Count.{below_more}
use Rattle.index.proofs.Flags.{by_order}
use Rattle.index.proofs.Lists.{set_case}
use Rattle.records.specs.Records.{topic_count}
use Rattle.layout.proofs.RowLaws.{tab_same}
use Rattle.layout.specs.Rows.{tab}
use Rattle.gossip.specs.Notes.{window_count, window_most, no_store, added, moved}
use Rattle.gossip.specs.Step.{running}
use Rattle.gossip.specs.Cells.{Run}
use Rattle.stores.specs.View.{all_windows, stores_cells, start_of, count_at, window_at, five_at, stores_of, store_at, Window, Store}
use Rattle.stores.specs.View.{Windows, Changed, Shifted, MovedTo}
use Rattle.stores.proofs.ViewLaws.{length_window, window_like, window_none, five_none, five_same, store_five}

≢-above : (p q : ℕ) → p ≤ q → q ≢ p → p + 1 ≤ q
≢-above p q a y = by_order (p + 1 ≤ q) p q (λ b. omega arith) (λ b. absurd (y (omega arith)))

tab_snoc : {A : Type 0} (n : ℕ) (f : ℕ → A) → tab (suc n) f ≡ tab n f ++ (f n ∷ [])
tab_snoc zero f = refl
tab_snoc (suc n) f = ap (λ l. f zero ∷ l) (tab_snoc n (λ k. f (suc k)))

-- ---- of all windows, one or a topic's

pub window_of : (c : List ℕ) (p : ℕ) → Windows c → p < all_windows → Window c p
window_of c p h l = record { cells = h.cells; low = l; most = h.most p l }

pub window_in : (c : List ℕ) (t w : ℕ) → Store c t → w < window_count → Window c (t * window_count + w)
window_in c t w h l = record { cells = h.cells; low = let b : t < topic_count = h.low in omega arith; most = h.most w l }

pub window_first : (c : List ℕ) (t : ℕ) → Store c t → Window c (t * window_count)
window_first c t h = rw (add-zero (t * window_count)) at (window_in c t 0 h (omega arith))

-- a topic's windows, the first at its own number
pub five_is :
    (c : List ℕ) (t p : ℕ) →
    p ≡ t * window_count →
    five_at c t ≡ window_at c p ∷ window_at c (p + 1) ∷ window_at c (p + 2) ∷ window_at c (p + 3) ∷ window_at c (p + 4) ∷ []
unfolding five_at
five_is c t p e = rw (e, add-zero)

pub running_is : (c : List ℕ) (t : ℕ) → t < topic_count → running (store_at c t) ≡ count_at c (t * window_count)
running_is c t h = ap running (store_five c t h ∙ five_is c t (t * window_count) refl) ∙ length_window c (t * window_count)

-- ---- one number more

abbrev more : List ℕ → ℕ → ℕ → List ℕ
more c p n = set (set c (start_of p + count_at c p) n) p (count_at c p + 1)

module _ (c : List ℕ) (p n : ℕ) (h : Windows c) (low : p < all_windows) (room : count_at c p < window_most) where
  more_cell : (i : ℕ) → i ≢ p → i ≢ start_of p + count_at c p → get_or (more c p n) i 0 ≡ get_or c i 0
  more_cell i a b =
      get_or-set_other (set c (start_of p + count_at c p) n) p i (count_at c p + 1) 0 a
      ∙ get_or-set_other c (start_of p + count_at c p) i n 0 b

  more_count : count_at (more c p n) p ≡ count_at c p + 1
  more_count =
      get_or-set_same (set c (start_of p + count_at c p) n) p (count_at c p + 1) 0
      (let s : length c ≡ stores_cells = h.cells in rw length-set (omega arith))

  more_last : get_or (more c p n) (start_of p + count_at c p) 0 ≡ n
  more_last =
      get_or-set_other (set c (start_of p + count_at c p) n) p (start_of p + count_at c p) (count_at c p + 1) 0 (λ e. omega arith)
      ∙ get_or-set_same c (start_of p + count_at c p) n 0 (let s : length c ≡ stores_cells = h.cells in omega arith)

  more_here : window_at (more c p n) p ≡ window_at c p ++ (n ∷ [])
  unfolding window_at
  more_here =
      ap (λ (k : ℕ). tab k (λ j. get_or (more c p n) (start_of p + j) 0)) (more_count ∙ add-one (count_at c p))
      ∙ tab_snoc (count_at c p) (λ j. get_or (more c p n) (start_of p + j) 0)
      ∙ ap (λ (l : List ℕ). l ++ (get_or (more c p n) (start_of p + count_at c p) 0 ∷ []))
      (tab_same (count_at c p) (λ j. get_or (more c p n) (start_of p + j) 0) (λ j. get_or c (start_of p + j) 0)
      (λ j b. more_cell (start_of p + j) (λ e. omega arith) (λ e. omega arith)))
      ∙ ap (λ (m : ℕ). window_at c p ++ (m ∷ [])) more_last

  more_other : (q : ℕ) → q < all_windows → q ≢ p → window_at (more c p n) q ≡ window_at c q
  more_other q l d =
      window_like c (more c p n) q q
      (more_cell q d (λ e. omega arith))
      (λ k b.
      let m : count_at c q ≤ window_most = h.most q l in
      more_cell (start_of q + k) (λ e. omega arith) (λ e. d (omega arith)))

  more_windows : Windows (more c p n)
  more_windows =
      record {
        cells = length-set (set c (start_of p + count_at c p) n) p (count_at c p + 1) ∙ length-set c _ n ∙ h.cells;
        most = λ q l.
            by_order (count_at (more c p n) q ≤ window_most) q p
            (λ b. rw (more_cell q (λ e. omega arith) (λ e. omega arith)) (h.most q l))
            (λ b.
            by_order (count_at (more c p n) q ≤ window_most) p q
            (λ a. rw (more_cell q (λ e. omega arith) (λ e. omega arith)) (h.most q l))
            (λ a. let e : q ≡ p = omega arith in rw (e, more_count) (omega arith)));
      }

pub added_cells :
    (c : List ℕ) (t n : ℕ) →
    Windows c →
    t < topic_count →
    running (store_at c t) < window_most →
    Changed c (more c (t * window_count) n) t (added n (store_at c t))
unfolding added
added_cells c t n h l r =
    let p = t * window_count in
    let low : p < all_windows = omega arith in
    let room : count_at c p < window_most = rw (running_is c t l) at r in
    let d = more c p n in
    record {
      windows = more_windows c p n h low room;
      here =
          five_is d t p refl
          ∙ rw (
            more_here c p n h low room,
            more_other c p n h low room (p + 1) (omega arith) (λ e. omega arith),
            more_other c p n h low room (p + 2) (omega arith) (λ e. omega arith),
            more_other c p n h low room (p + 3) (omega arith) (λ e. omega arith),
            more_other c p n h low room (p + 4) (omega arith) (λ e. omega arith),
            store_five c t l,
            five_is c t p refl,
          );
      others = λ u b d.
          five_same c (more c p n) u
          (λ w v. more_other c p n h low room (u * window_count + w) (omega arith) (λ e. d (omega arith)));
    }

-- ---- no number

pub emptied_cells :
    (c d : List ℕ) (t : ℕ) → Windows c → t < topic_count → Run c d (t * window_count) window_count (λ k. 0) → Changed c d t no_store
emptied_cells c d t h l m =
    let p = t * window_count in
    let cell : (i : ℕ) → all_windows ≤ i → get_or d i 0 ≡ get_or c i 0 = λ i b. m.after i (omega arith) in
    record {
      windows = record {
        cells = m.size ∙ h.cells;
        most = λ q b.
            by_order (count_at d q ≤ window_most) q p
            (λ a. rw (m.before q a) (h.most q b))
            (λ a.
            by_order (count_at d q ≤ window_most) q (p + window_count)
            (λ z.
            let e : q ≡ p + (q - p) = omega arith in
            let n : count_at d q ≡ 0 = ap (count_at d) e ∙ m.within (q - p) (omega arith) in
            omega arith)
            (λ z. rw (m.after q z) (h.most q b)));
      };
      here = five_none d t m.within;
      others = λ u b y.
          five_same c d u
          (λ w v.
          let q = u * window_count + w in
          let same : (i : ℕ) → i ≡ q → get_or d i 0 ≡ get_or c i 0 =
          λ i e.
          by_order (get_or d i 0 ≡ get_or c i 0) u t
          (λ a. m.before i (omega arith))
          (λ a. m.after i (let a' : t + 1 ≤ u = ≢-above t u a y in omega arith)) in
          window_like c d q q (same q refl) (λ k z. cell (start_of q + k) (omega arith)));
    }

-- ---- a window in place of the one behind it

pub shifted_cells :
    (c d : List ℕ) (p : ℕ) →
    Windows c →
    p + 1 < all_windows →
    Run c d (start_of p + window_most) (count_at c p) (λ k. get_or c (start_of p + k) 0) →
    Shifted c (set d (p + 1) (count_at c p)) p
shifted_cells c d p h low m =
    let most : count_at c p ≤ window_most = h.most p (omega arith) in
    let size : length c ≡ stores_cells = h.cells in
    let len : length d ≡ length c = m.size in
    let e = set d (p + 1) (count_at c p) in
    let cell : (i : ℕ) → i ≢ p + 1 → get_or e i 0 ≡ get_or d i 0 = λ i b. get_or-set_other d (p + 1) i (count_at c p) 0 b in
    let count : count_at e (p + 1) ≡ count_at c p = get_or-set_same d (p + 1) (count_at c p) 0 (omega arith) in
    record {
      windows = record {
        cells = length-set d (p + 1) (count_at c p) ∙ len ∙ size;
        most = λ q l.
            by_order (count_at e q ≤ window_most) q (p + 1)
            (λ b. rw (cell q (λ z. omega arith), m.before q (omega arith)) (h.most q l))
            (λ b.
            by_order (count_at e q ≤ window_most) (p + 1) q
            (λ a. rw (cell q (λ z. omega arith), m.before q (omega arith)) (h.most q l))
            (λ a. let z : q ≡ p + 1 = omega arith in rw (z, count) most));
      };
      here = λ q y.
          rw y
          (window_like c e p (p + 1) count
          (λ k b.
          let z : start_of (p + 1) + k ≡ start_of p + window_most + k = omega arith in
          cell (start_of (p + 1) + k) (λ x. omega arith) ∙ rw z (m.within k b)));
      others = λ q l y.
          let few : count_at c q ≤ window_most = h.most q l in
          window_like c e q q
          (cell q y ∙ m.before q (omega arith))
          (λ k b.
          cell (start_of q + k) (λ z. omega arith)
          ∙ by_order (get_or d (start_of q + k) 0 ≡ get_or c (start_of q + k) 0) q (p + 1)
          (λ a. m.before (start_of q + k) (omega arith))
          (λ a. m.after (start_of q + k) (let a' : p + 1 + 1 ≤ q = ≢-above (p + 1) q a y in omega arith)));
    }

-- ---- a new heartbeat

cleared_other : (c : List ℕ) (p q : ℕ) → p < all_windows → q ≢ p → window_at (set c p 0) q ≡ window_at c q
cleared_other c p q l d =
    window_like c (set c p 0) q q
    (get_or-set_other c p q 0 0 d)
    (λ k b. get_or-set_other c p (start_of q + k) 0 0 (λ e. omega arith))

module _
    (c d₁ d₂ d₃ d₄ : List ℕ) (t : ℕ) (low : t < topic_count)
    (h₁ : Shifted c d₁ (t * window_count + 3))
    (h₂ : Shifted d₁ d₂ (t * window_count + 2))
    (h₃ : Shifted d₂ d₃ (t * window_count + 1))
    (h₄ : Shifted d₃ d₄ (t * window_count)) where
  moved_other :
      (q : ℕ) → q < all_windows → q ≢ t * window_count → q ≢ t * window_count + 1 → q ≢ t * window_count + 2 →
      q ≢ t * window_count + 3 → q ≢ t * window_count + 4 →
      window_at (set d₄ (t * window_count) 0) q ≡ window_at c q
  moved_other q l a b₁ b₂ b₃ b₄ =
      cleared_other d₄ (t * window_count) q (omega arith) a
      ∙ h₄.others q l b₁
      ∙ h₃.others q l (λ e. b₂ (omega arith))
      ∙ h₂.others q l (λ e. b₃ (omega arith))
      ∙ h₁.others q l (λ e. b₄ (omega arith))

  moved_here : five_at (set d₄ (t * window_count) 0) t ≡ moved (five_at c t)
  unfolding moved
  moved_here =
      let p = t * window_count in
      let d = set d₄ p 0 in
      let len : length d₄ ≡ stores_cells = h₄.windows.cells in
      let w₀ : window_at d p ≡ [] = window_none d p (get_or-set_same d₄ p 0 0 (omega arith)) in
      let keep : (q : ℕ) → q ≢ p → window_at d q ≡ window_at d₄ q = λ q n. cleared_other d₄ p q (omega arith) n in
      let w₁ : window_at d (p + 1) ≡ window_at c p =
      keep (p + 1) (λ e. omega arith)
      ∙ h₄.here (p + 1) refl
      ∙ h₃.others p (omega arith) (λ e. omega arith)
      ∙ h₂.others p (omega arith) (λ e. omega arith)
      ∙ h₁.others p (omega arith) (λ e. omega arith) in
      let w₂ : window_at d (p + 2) ≡ window_at c (p + 1) =
      keep (p + 2) (λ e. omega arith)
      ∙ h₄.others (p + 2) (omega arith) (λ e. omega arith)
      ∙ h₃.here (p + 2) (omega arith)
      ∙ h₂.others (p + 1) (omega arith) (λ e. omega arith)
      ∙ h₁.others (p + 1) (omega arith) (λ e. omega arith) in
      let w₃ : window_at d (p + 3) ≡ window_at c (p + 2) =
      keep (p + 3) (λ e. omega arith)
      ∙ h₄.others (p + 3) (omega arith) (λ e. omega arith)
      ∙ h₃.others (p + 3) (omega arith) (λ e. omega arith)
      ∙ h₂.here (p + 3) (omega arith)
      ∙ h₁.others (p + 2) (omega arith) (λ e. omega arith) in
      let w₄ : window_at d (p + 4) ≡ window_at c (p + 3) =
      keep (p + 4) (λ e. omega arith)
      ∙ h₄.others (p + 4) (omega arith) (λ e. omega arith)
      ∙ h₃.others (p + 4) (omega arith) (λ e. omega arith)
      ∙ h₂.others (p + 4) (omega arith) (λ e. omega arith)
      ∙ h₁.here (p + 4) (omega arith) in
      five_is d t p refl ∙ rw (w₀, w₁, w₂, w₃, w₄, five_is c t p refl)

  pub moved_cells : Changed c (set d₄ (t * window_count) 0) t (moved (five_at c t))
  moved_cells =
      let p = t * window_count in
      record {
        windows = record {
          cells = length-set d₄ p 0 ∙ h₄.windows.cells;
          most = λ q l.
              set_case (λ (n : ℕ). n ≤ window_most) d₄ p q 0 0 (λ e. omega arith) (h₄.windows.most q l);
        };
        here = moved_here;
        others = λ u b y.
            five_same c (set d₄ p 0) u
            (λ w v.
            moved_other (u * window_count + w) (omega arith)
            (λ e. y (omega arith))
            (λ e. y (omega arith))
            (λ e. y (omega arith))
            (λ e. y (omega arith))
            (λ e. y (omega arith)));
      }

map_tab : {A B : Type 0} (f : A → B) (n : ℕ) (g : ℕ → A) → map f (tab n g) ≡ tab n (λ k. f (g k))
map_tab f zero g = refl
map_tab f (suc n) g = ap (λ l. f (g zero) ∷ l) (map_tab f n (λ k. g (suc k)))

pub moved_none : (c : List ℕ) → Windows c → MovedTo c c 0
moved_none c h = record { windows = h; below = λ u l. absurd (not-suc-le-zero l); above = λ u l b. refl }

pub moved_more :
    (c d e : List ℕ) (t : ℕ) → t < topic_count → MovedTo c d t → Changed d e t (moved (five_at d t)) → MovedTo c e (t + 1)
moved_more c d e t l h m =
    record {
      windows = m.windows;
      below =
          below_more (λ (u : ℕ). five_at e u ≡ moved (five_at c u)) t
          (λ u b. m.others u (omega arith) (λ z. omega arith) ∙ h.below u b)
          (m.here ∙ ap moved (h.above t l (omega arith)));
      above = λ u b a. m.others u b (λ z. omega arith) ∙ h.above u b (omega arith);
    }

pub moved_done : (c d : List ℕ) (t : ℕ) → topic_count ≤ t → MovedTo c d t → stores_of d ≡ map moved (stores_of c)
unfolding stores_of
moved_done c d t l h =
    tab_same topic_count (five_at d) (λ u. moved (five_at c u)) (λ u b. h.below u (omega arith))
    ∙ sym (map_tab moved topic_count (five_at c))
