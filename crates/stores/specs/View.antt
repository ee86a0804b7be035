-- How cells hold the stores of the topics: a count for each window, then 64 cells for its numbers. Window w of topic t, a heartbeat's
-- numbers, is window t * 5 + w of all. Cells from a window's count on are read by no view.
use Rattle.std.specs.Prelude.{ℕ, ◌+◌, ◌*◌, ◌≤◌, ◌<◌, ◌≡◌, ◌≢◌, Bool, true, false, Option, Some, None, List, length, get_or}
use Rattle.records.specs.Records.{topic_count}
use Rattle.layout.specs.Rows.{tab}
use Rattle.gossip.specs.Notes.{window_count, window_most, no_store, stored_in, some, moved}

-- the windows of all topics, the places for numbers, and the cells
abbrev pub all_windows : ℕ
all_windows = 40

abbrev pub place_count : ℕ
place_count = 2560

abbrev pub stores_cells : ℕ
stores_cells = 2600

-- where the numbers of window p begin
abbrev pub start_of : ℕ → ℕ
start_of p = all_windows + p * window_most

abbrev pub count_at : List ℕ → ℕ → ℕ
count_at c p = get_or c p 0

unfoldable pub window_at : List ℕ → ℕ → List ℕ
window_at c p = tab (count_at c p) (λ k. get_or c (start_of p + k) 0)

-- the windows of topic t, the running heartbeat's first
unfoldable pub five_at : List ℕ → ℕ → List (List ℕ)
five_at c t = tab window_count (λ w. window_at c (t * window_count + w))

unfoldable pub stores_of : List ℕ → List (List (List ℕ))
stores_of c = tab topic_count (five_at c)

abbrev pub store_at : List ℕ → ℕ → List (List ℕ)
store_at c t = get_or (stores_of c) t no_store

-- some topic stores number n
unfoldable pub stored_at : List ℕ → ℕ → Bool
stored_at c n = some topic_count (λ t. stored_in (store_at c t) n)

-- ---- what the functions rely on

-- a window within its cells
pub record Window (c : List ℕ) (p : ℕ) : Type 0 where
  pub cells : length c ≡ stores_cells
  pub low : p < all_windows
  pub most : count_at c p ≤ window_most

-- a topic's windows within theirs
pub record Store (c : List ℕ) (t : ℕ) : Type 0 where
  pub cells : length c ≡ stores_cells
  pub low : t < topic_count
  pub most : (w : ℕ) → w < window_count → count_at c (t * window_count + w) ≤ window_most

-- all windows within theirs, as those of stores that test 12 finds right are
pub record Windows (c : List ℕ) : Type 0 where
  pub cells : length c ≡ stores_cells
  pub most : (p : ℕ) → p < all_windows → count_at c p ≤ window_most

-- ---- what they do

-- the place of a number, where it is stored
abbrev pub PlaceOf : Bool → Option ℕ → Type 0
PlaceOf stored None = stored ≡ false
PlaceOf stored (Some place) = (stored ≡ true) × (place < place_count)

-- d is c with the windows of topic t replaced by s
pub record Changed (c d : List ℕ) (t : ℕ) (s : List (List ℕ)) : Type 0 where
  pub windows : Windows d
  pub here : five_at d t ≡ s
  pub others : (u : ℕ) → u < topic_count → u ≢ t → five_at d u ≡ five_at c u

-- d is c with window p in place of the one behind it
pub record Shifted (c d : List ℕ) (p : ℕ) : Type 0 where
  pub windows : Windows d
  pub here : (q : ℕ) → q ≡ p + 1 → window_at d q ≡ window_at c p
  pub others : (q : ℕ) → q < all_windows → q ≢ p + 1 → window_at d q ≡ window_at c q

-- d is c with a new heartbeat of each topic below t
pub record MovedTo (c d : List ℕ) (t : ℕ) : Type 0 where
  pub windows : Windows d
  pub below : (u : ℕ) → u < t → five_at d u ≡ moved (five_at c u)
  pub above : (u : ℕ) → u < topic_count → t ≤ u → five_at d u ≡ five_at c u
