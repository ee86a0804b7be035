-- Lists whose numbers have marked their buckets, and the walks along a topic's windows that rely on it.
use Rattle.std.specs.Prelude.{ℕ, ◌+◌, ◌*◌, ◌%◌, ◌≤◌, ◌<◌, ◌≡◌, Bool, true, false, cond, ◌||◌, List, ◌++◌, eqb, length, get_or, set, take, replicate}
use Rattle.std.proofs.lemmas.List.Edits.{sets}
use Rattle.index.specs.Index.{gather}
use Rattle.marks.specs.Marks.{bucket_count, word_count, is_marked}
use Rattle.sorting.specs.Sorting.{place_in, Ordered}
use Rattle.gossip.specs.Notes.{window_count, numbers_most, has}
use Rattle.gossip.specs.Valid.{apart}
use Rattle.stores.specs.View.{count_at, window_at, Store}

-- every number of a list has marked its bucket
pub record Seen (l seen : List ℕ) : Type 0 where
  pub size : length seen ≡ word_count
  pub marks : (n : ℕ) → has n l ≡ true → is_marked seen (n % bucket_count) ≡ true

-- ---- a topic's numbers, window by window

abbrev pub windows_of : List ℕ → ℕ → ℕ → List ℕ
windows_of c t w = window_at c (t * window_count + w)

-- those of its first w windows
unfoldable pub before : List ℕ → ℕ → ℕ → List ℕ
before c t w = gather w (windows_of c t)

-- and the first k of the next
unfoldable pub up_to : List ℕ → ℕ → ℕ → ℕ → List ℕ
up_to c t w k = before c t w ++ take k (windows_of c t w)

-- what a look at number k of window w relies on
pub record Looking (c seen : List ℕ) (t w k : ℕ) : Type 0 where
  pub store : Store c t
  pub window : w < window_count
  pub number : k < count_at c (t * window_count + w)
  pub marks : Seen (up_to c t w k) seen

-- what a walk along window w relies on
pub record Walking (c seen : List ℕ) (t w : ℕ) : Type 0 where
  pub store : Store c t
  pub window : w < window_count
  pub apart : apart (before c t w) ≡ true
  pub marks : Seen (before c t w) seen

-- ---- given numbers, in ascending order

-- few enough of them, and flags for their places
pub record Given (rising : List ℕ) (known : List Bool) : Type 0 where
  pub few : length rising ≤ numbers_most
  pub order : Ordered rising
  pub size : length known ≡ numbers_most

-- the flag of a number stands at its place, so equal numbers have one flag
abbrev pub flag_of : List ℕ → List Bool → ℕ → Bool
flag_of rising known n = get_or known (place_in n rising) false

-- the flags b are the flags a, and up for those of which f holds
pub record Flags (f : ℕ → Bool) (rising : List ℕ) (a b : List Bool) : Type 0 where
  pub size : length b ≡ length a
  pub flags : (n : ℕ) → has n rising ≡ true → flag_of rising b n ≡ flag_of rising a n || f n

-- a list a of which `size` numbers are in use becomes b, where number n goes in unless its flag is up; then it is up, and r are in use
pub record Next (rising : List ℕ) (n size : ℕ) (known left : List Bool) (a b : List ℕ) (r : ℕ) : Type 0 where
  pub list : b ≡ cond (flag_of rising known n) a (set a size n)
  pub count : r ≡ cond (flag_of rising known n) size (size + 1)
  pub flags : Flags (eqb n) rising known left

-- list b is a with the numbers l in front; the flags are up for these and for those of which f holds
pub record Listed (f : ℕ → Bool) (rising l : List ℕ) (known : List Bool) (a b : List ℕ) (size : ℕ) : Type 0 where
  pub list : b ≡ sets a 0 l
  pub count : size ≡ length l
  pub flags : Flags (λ n. f n || has n l) rising (replicate numbers_most false) known
