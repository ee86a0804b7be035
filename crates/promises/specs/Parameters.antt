-- The sheet's own numbers, by 01's list of them.
use Rattle.std.specs.Prelude.{ℕ, ◌+◌, ◌*◌, nat_abs}
use Rattle.params.specs.declared.Params.{Params}
use Rattle.limits.specs.Limits.{at}

-- "147 numbers: 19 general, then 16 per topic": number j of topic t, without its sign
abbrev pub topic_number : Params → ℕ → ℕ → ℕ
topic_number params t j = nat_abs (at params.numbers (19 + 16 * t + j))
