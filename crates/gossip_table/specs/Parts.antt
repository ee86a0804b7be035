-- A part of a list: n numbers from the a-th on.
use Rattle.std.specs.Prelude.{ℕ, List, take, drop}

abbrev pub part : ℕ → ℕ → List ℕ → List ℕ
part a n l = take n (drop a l)
