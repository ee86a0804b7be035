-- What the second pass of a load finds: the place of the first number outside its range, of numbers that the first pass has read.
use Rattle.std.specs.Prelude.{Option, Some, None}
use Rattle.std.specs.Prelude.{ℕ, Bool, true, false, not, ◌&&◌, ◌||◌, List, eqb, leb, ltb}
use Rattle.index.specs.Index.{first}
use Rattle.saves.specs.Load.{Parse, numbers, malformed, place_of, outside}

abbrev pub is_read : Parse → Bool
is_read (numbers l next) = true
is_read (malformed p) = false

abbrev pub place_by : List ℕ → ℕ → Option ℕ → Option ℕ
place_by s at (Some i) = Some (place_of s at i)
place_by s at None = None

abbrev pub judge_of : (most s : List ℕ) (at n : ℕ) → Parse → Option ℕ
judge_of most s at n (numbers l next) = place_by s at (first n (outside most l))
judge_of most s at n (malformed p) = None

-- number v in column j of its record, whose id has to pass `last`
abbrev pub outside_now : (most last j v : ℕ) → Bool
outside_now most last j v = not ((not (eqb j 0) || ltb last v) && leb v most)
