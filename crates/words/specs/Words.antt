-- Sets of slots as words: the list of flags that the words stand for. Definitions only.
use Rattle.std.specs.Prelude.{ℕ, zero, suc, ◌+◌, ◌*◌, ◌/◌, ◌%◌, ◌≤◌, ◌<◌, ◌≡◌, Bool, true, false, not, List, [], ◌∷◌, ◌++◌, get_or, eqb}
use Rattle.records.specs.Records.{slot_count}

-- the bits of a word, and the words of a set of all slots
abbrev pub word_bits : ℕ
word_bits = 64

abbrev pub word_count : ℕ
word_count = slot_count / word_bits

abbrev pub odd : ℕ → Bool
odd n = eqb (n % 2) 1

abbrev pub unit : Bool → ℕ
unit true = 1
unit false = 0

-- the k low bits of a word, the lowest first
unfoldable pub bits : ℕ → ℕ → List Bool
bits zero w = []
bits (suc k) w = odd w ∷ bits k (w / 2)

-- the flags of all slots: slot s is bit s % 64 of word s / 64
unfoldable pub bits_of : List ℕ → List Bool
bits_of [] = []
bits_of (w ∷ ws) = bits word_bits w ++ bits_of ws

-- one of two flags alone
abbrev pub differs : Bool → Bool → Bool
differs true y = not y
differs false y = y

-- the lowest slot of a set; its length where none is in
unfoldable pub lowest : List Bool → ℕ
lowest [] = zero
lowest (true ∷ m) = zero
lowest (false ∷ m) = suc (lowest m)

-- the slots of a set in order, counted from i
unfoldable pub slots : ℕ → List Bool → List ℕ
slots i [] = []
slots i (true ∷ m) = i ∷ slots (suc i) m
slots i (false ∷ m) = slots (suc i) m

-- the word w has the flags of the slots from 64 * i on
abbrev pub PackedFrom : List Bool → ℕ → ℕ → Type 0
PackedFrom flags i w = (s : ℕ) → s < word_bits → get_or (bits word_bits w) s false ≡ get_or flags (word_bits * i + s) false

-- r is the lowest slot of the set m from s on, or the count of the slots where none is in
pub record Next (m : List Bool) (s r : ℕ) : Type 0 where
  pub later : s ≤ r
  pub most : r ≤ slot_count
  pub none : (k : ℕ) → s ≤ k → k < r → get_or m k false ≡ false
  pub here : r < slot_count → get_or m r false ≡ true
