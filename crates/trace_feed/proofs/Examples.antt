-- Fronts of a trace, and what is printed of them, by computation.
-- Assumes nothing.
use mathlib.Core.Path.{◌≡◌, refl}
use mathlib.Core.List.{[], ◌∷◌}
use Rattle.varint.specs.Groups.{decode, read_at}
use Rattle.params_bytes.specs.Read.{edition_at, parse_from, parse_at, front_at}
use Rattle.trace_events.specs.Lines.{pair_line}
use Rattle.trace_feed.specs.Front.{front_in}
use Rattle.trace_feed.specs.Printed.{printed_of}

-- an input that ends with the front's two zero bytes
zeros_alone : printed_of (0 ∷ 0 ∷ []) ≡ pair_line 10 2
unfolding printed_of front_in
zeros_alone = refl

-- "another third byte: 9 2": 1, 4, and a 2 in two bytes
third_one : printed_of (0 ∷ 0 ∷ 1 ∷ []) ≡ pair_line 9 2
unfolding printed_of front_in
third_one = refl

third_four : printed_of (0 ∷ 0 ∷ 4 ∷ []) ≡ pair_line 9 2
unfolding printed_of front_in
third_four = refl

third_overlong : printed_of (0 ∷ 0 ∷ 130 ∷ 0 ∷ []) ≡ pair_line 9 2
unfolding printed_of front_in
third_overlong = refl

-- "its sheet's byte places count from the trace's first byte": the parameters end before their first number, and inside it; those of the
-- first edition end after one
second_alone : printed_of (0 ∷ 0 ∷ 2 ∷ []) ≡ pair_line 10 3
unfolding printed_of front_in front_at parse_at edition_at parse_from read_at decode
second_alone = refl

third_alone : printed_of (0 ∷ 0 ∷ 3 ∷ []) ≡ pair_line 10 3
unfolding printed_of front_in front_at parse_at edition_at parse_from read_at decode
third_alone = refl

second_cut : printed_of (0 ∷ 0 ∷ 2 ∷ 8 ∷ 140 ∷ []) ≡ pair_line 10 4
unfolding printed_of front_in front_at parse_at edition_at parse_from read_at decode
second_cut = refl

zero_alone : printed_of (0 ∷ []) ≡ pair_line 10 1
unfolding printed_of front_in front_at parse_at edition_at parse_from read_at decode
zero_alone = refl
