-- One cell: the free bits of a number and of its sum with the room of a limit tell that it is within the limit, lane by lane. A sum that
-- keeps the free bits clear is a sum in each lane.
-- Assumes nothing.
use Rattle.std.proofs.Common.{◌≡◌, ℕ, ◌+◌, ◌*◌, ◌/◌, ◌%◌, ◌^◌, ◌<◌, ◌≤◌, ap, ◌∙◌, mod-eq_of_lt, arith}
use lib.Bits.{bit_or, or_shr, or_mod}
use Rattle.columns.specs.Gather.{cell_top, lane_top, half_top, room, halves_room, lanes_room, Halves, Lanes}
use Rattle.columns.proofs.GatherLaws.{in_left, in_right}

-- ---- a union tells of both its parts

module _ (u v : ℕ) where
  pub low_left : bit_or u v < cell_top → u < cell_top
  low_left h = omega (arith, in_left u v)

  pub low_right : bit_or u v < cell_top → v < cell_top
  low_right h = omega (arith, in_right u v)

  pub zero_left : bit_or u v ≡ 0 → u ≡ 0
  zero_left h = omega (arith, in_left u v)

  pub zero_right : bit_or u v ≡ 0 → v ≡ 0
  zero_right h = omega (arith, in_right u v)

  pub halves_left : Halves (bit_or u v) → Halves u
  halves_left f =
      record {
        low = omega (arith, or_mod u v 32, f.low, in_left (u % 2 ^ 32) (v % 2 ^ 32));
        high = omega (arith, or_shr u v 32, f.high, in_left (u / 2 ^ 32) (v / 2 ^ 32));
      }

  pub halves_right : Halves (bit_or u v) → Halves v
  halves_right f =
      record {
        low = omega (arith, or_mod u v 32, f.low, in_right (u % 2 ^ 32) (v % 2 ^ 32));
        high = omega (arith, or_shr u v 32, f.high, in_right (u / 2 ^ 32) (v / 2 ^ 32));
      }

  second_or : bit_or u v / 2 ^ 21 % 2 ^ 21 ≡ bit_or (u / 2 ^ 21 % 2 ^ 21) (v / 2 ^ 21 % 2 ^ 21)
  second_or = ap (λ n. n % 2 ^ 21) (or_shr u v 21) ∙ or_mod (u / 2 ^ 21) (v / 2 ^ 21) 21

  pub lanes_left : Lanes (bit_or u v) → Lanes u
  lanes_left f =
      record {
        first = omega (arith, or_mod u v 21, f.first, in_left (u % 2 ^ 21) (v % 2 ^ 21));
        second = omega (arith, second_or, f.second, in_left (u / 2 ^ 21 % 2 ^ 21) (v / 2 ^ 21 % 2 ^ 21));
        third = omega (arith, or_shr u v 42, f.third, in_left (u / 2 ^ 42) (v / 2 ^ 42));
      }

  pub lanes_right : Lanes (bit_or u v) → Lanes v
  lanes_right f =
      record {
        first = omega (arith, or_mod u v 21, f.first, in_right (u % 2 ^ 21) (v % 2 ^ 21));
        second = omega (arith, second_or, f.second, in_right (u / 2 ^ 21 % 2 ^ 21) (v / 2 ^ 21 % 2 ^ 21));
        third = omega (arith, or_shr u v 42, f.third, in_right (u / 2 ^ 42) (v / 2 ^ 42));
      }

-- ---- a whole cell

pub low_limit : (x limit : ℕ) → x < cell_top → (x + room cell_top limit) % 2 ^ 64 < cell_top → x ≤ limit
low_limit x limit h l =
    let e : (x + room cell_top limit) % 2 ^ 64 ≡ x + room cell_top limit = mod-eq_of_lt (omega arith) in
    omega (arith, e)

-- a sum that wraps for all but 0
pub low_one : (x : ℕ) → x < cell_top → (x + 18446744073709551615) % 2 ^ 64 < cell_top → 1 ≤ x
low_one x h l = omega arith

-- ---- lanes

pub halves_limit :
    (x low high : ℕ) →
    Halves x →
    Halves ((x + halves_room low high) % 2 ^ 64) →
    (x % 4294967296 ≤ low) × (x / 4294967296 ≤ high)
unfolding halves_room
halves_limit x low high f g =
    let a = room half_top low in
    let b = room half_top high in
    let whole : x ≡ x % 4294967296 + x / 4294967296 * 4294967296 = omega arith in
    let e : (x + (a + b * 4294967296)) % 2 ^ 64 ≡ x + (a + b * 4294967296) = mod-eq_of_lt (omega (arith, f.low, f.high)) in
    (omega (arith, e, f.low, f.high, g.low), omega (arith, e, f.low, f.high, g.high))

pub lanes_limit :
    (x first second third : ℕ) →
    Lanes x →
    Lanes ((x + lanes_room first second third) % 2 ^ 64) →
    (x % 2097152 ≤ first) × ((x / 2097152 % 2097152 ≤ second) × (x / 4398046511104 ≤ third))
unfolding lanes_room
lanes_limit x first second third f g =
    let k = room lane_top first + room lane_top second * 2097152 + room lane_top third * 4398046511104 in
    let e : (x + k) % 2 ^ 64 ≡ x + k = mod-eq_of_lt (omega (arith, f.first, f.second, f.third)) in (
      omega (arith, e, f.first, f.second, f.third, g.first),
      (
        omega (arith, e, f.first, f.second, f.third, g.second),
        omega (arith, e, f.first, f.second, f.third, g.third),
      ),
    )
