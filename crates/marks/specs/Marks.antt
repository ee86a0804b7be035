-- Buckets of numbers, marked in words of a bit for each bucket.
use Rattle.std.specs.Prelude.{ℕ, ◌/◌, ◌%◌, ◌^◌, Bool, List, eqb, get_or, set}
use Rattle.std.specs.Int.Bits.{bit_or}

-- number n falls into bucket n % 8192; bit b % 64 of word b / 64 is the mark of bucket b
abbrev pub bucket_count : ℕ
bucket_count = 8192

abbrev pub word_bits : ℕ
word_bits = 64

abbrev pub word_count : ℕ
word_count = 128

unfoldable pub is_marked : List ℕ → ℕ → Bool
is_marked seen b = eqb (get_or seen (b / word_bits) 0 / 2 ^ (b % word_bits) % 2) 1

unfoldable pub marked : List ℕ → ℕ → List ℕ
marked seen b = set seen (b / word_bits) (bit_or (get_or seen (b / word_bits) 0) (2 ^ (b % word_bits)))
