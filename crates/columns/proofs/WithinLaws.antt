-- What the unions of the passes tell of the state: each cell is within its limit, and the cells in use are the records.
-- Assumes nothing.
use Rattle.std.proofs.Common.{◌≡◌, ℕ, ◌+◌, ◌-◌, ◌*◌, ◌/◌, ◌%◌, ◌<◌, ◌≤◌, true, ◌&&◌, eqb, ltb, List, get_or, sym, refl, ap, ◌∙◌, subst, not-suc-le-zero, arith}
use Rattle.std.proofs.Common.{ltb-true, eqb-true}
use lib.Bits.{bit_or}
use native.Mathlib.Decide.{dec_lt}
use Rattle.index.proofs.Index.{both}
use Rattle.records.specs.Records.{topic_count}
use Rattle.layout.specs.View.{stride, id_at, groups_at, p57_at, retain_at, ends_at, counters_at, p3b_at, state_of}
use Rattle.columns.specs.Gather.{gathered, cell_top, lane_top, half_top, room, halves_room, lanes_room, Halves, Lanes, RunWithin}
use Rattle.columns.specs.Gather.{counters_gathered}
use Rattle.columns.specs.Within.{InUse, PeersWithin, Named, OneGroup, NoRetain, EndsWithin, CountersWithin}
use Rattle.columns.proofs.GatherLaws.{in_left, in_right, gathered_each}
use Rattle.columns.proofs.LaneLaws.{low_left, low_right, zero_left, zero_right, halves_left, halves_right, lanes_left, lanes_right}
use Rattle.columns.proofs.LaneLaws.{low_limit, low_one, halves_limit, lanes_limit}
use Rattle.columns.proofs.CellLaws.{id_cell, first_cell, second_cell, third_cell, fourth_cell, p5_cell, p7_cell, retain_cell}
use Rattle.columns.proofs.CellLaws.{end_cell}
use Rattle.columns.proofs.CellLaws.{p2_cell, p3_cell, p4_cell, p3b_cell}

-- ---- the tests of free bits, and the rooms

pub halves_test : (x : ℕ) → ltb (x % 4294967296) half_top && ltb (x / 4294967296) half_top ≡ true → Halves x
halves_test x t =
    let b = both _ _ t in
    record { low = ltb-true _ _ b.0; high = ltb-true _ _ b.1 }

pub lanes_test :
    (x : ℕ) →
    ltb (x % 2097152) lane_top && ltb (x / 2097152 % 2097152) lane_top && ltb (x / 4398046511104) lane_top ≡ true →
    Lanes x
lanes_test x t =
    let b = both _ _ t in
    let a = both _ _ b.0 in
    record { first = ltb-true _ _ a.0; second = ltb-true _ _ a.1; third = ltb-true _ _ b.1 }

pub halves_room_lem : (a b low high : ℕ) → a ≡ room half_top low → b ≡ room half_top high → a + b * 4294967296 ≡ halves_room low high
unfolding halves_room
halves_room_lem a b low high e f = rw (e, f) refl

pub lanes_room_lem :
    (a b d first second third : ℕ) →
    a ≡ room lane_top first →
    b ≡ room lane_top second →
    d ≡ room lane_top third →
    a + b * 2097152 + d * 4398046511104 ≡ lanes_room first second third
unfolding lanes_room
lanes_room_lem a b d first second third e f g = rw (e, f, g) refl

-- ---- a test of what a pass gathered, with a computed room

pub below_top :
    (c : List ℕ) (at n u k j : ℕ) →
    u ≡ gathered c at k n →
    k ≡ j →
    ltb u cell_top ≡ true →
    gathered c at j n < cell_top
below_top c at n u k j e f t =
    let p : u ≡ gathered c at j n = e ∙ ap (λ (i : ℕ). gathered c at i n) f in
    subst (λ (x : ℕ). x < cell_top) p (ltb-true u cell_top t)

pub all_zero : (c : List ℕ) (at n u : ℕ) → u ≡ gathered c at 0 n → eqb u 0 ≡ true → gathered c at 0 n ≡ 0
all_zero c at n u e t = sym e ∙ eqb-true u 0 t

pub in_halves :
    (c : List ℕ) (at n u k j : ℕ) →
    u ≡ gathered c at k n →
    k ≡ j →
    Halves u →
    Halves (gathered c at j n)
in_halves c at n u k j e f h = subst Halves (e ∙ ap (λ (i : ℕ). gathered c at i n) f) h

-- ---- four runs side by side: no cell is above the union

-- what four more cells leave below
module _ (c : List ℕ) (u v : ℕ) (l : u ≤ v) where
  pub run_more : (at i x : ℕ) → RunWithin c at i u → x ≡ get_or c (at + i) 0 → x ≤ v → RunWithin c at (i + 1) v
  run_more at i x r e h =
      record {
        cell = λ j b.
            elim (dec_lt j i) [
              | yes d ↦ let q = r.cell j d in omega arith
              | no d ↦
                  let q : j ≡ i = omega arith in
                  rw (q, sym e) h
            ];
      }

pub four_below :
    (u a b d e : ℕ) →
    (u ≤ bit_or u (bit_or (bit_or a b) (bit_or d e)))
    × ((a ≤ bit_or u (bit_or (bit_or a b) (bit_or d e)))
    × ((b ≤ bit_or u (bit_or (bit_or a b) (bit_or d e)))
    × ((d ≤ bit_or u (bit_or (bit_or a b) (bit_or d e))) × (e ≤ bit_or u (bit_or (bit_or a b) (bit_or d e))))))
four_below u a b d e =
    let p = in_left u (bit_or (bit_or a b) (bit_or d e)) in
    let q = in_right u (bit_or (bit_or a b) (bit_or d e)) in
    let l = in_left (bit_or a b) (bit_or d e) in
    let r = in_right (bit_or a b) (bit_or d e) in (
      p,
      (
        omega (arith, q, l, in_left a b),
        (omega (arith, q, l, in_right a b), (omega (arith, q, r, in_left d e), omega (arith, q, r, in_right d e))),
      ),
    )

pub run_none : (c : List ℕ) (at u : ℕ) → RunWithin c at 0 u
run_none c at u = record { cell = λ i l. absurd (not-suc-le-zero l) }

pub run_join :
    (c : List ℕ) (at n i u : ℕ) →
    n ≤ i →
    RunWithin c at i u →
    RunWithin c (at + n) i u →
    RunWithin c (at + 2 * n) i u →
    RunWithin c (at + 3 * n) i u →
    RunWithin c at (4 * n) u
run_join c at n i u l w x y z =
    record {
      cell = λ j b.
          elim (dec_lt j n) [
            | yes d ↦ w.cell j (omega arith)
            | no d ↦
                elim (dec_lt j (2 * n)) [
                  | yes e ↦
                      let q : at + j ≡ at + n + (j - n) = omega arith in
                      rw q (x.cell (j - n) (omega arith))
                  | no e ↦
                      elim (dec_lt j (3 * n)) [
                        | yes f ↦
                            let q : at + j ≡ at + 2 * n + (j - 2 * n) = omega arith in
                            rw q (y.cell (j - 2 * n) (omega arith))
                        | no f ↦
                            let q : at + j ≡ at + 3 * n + (j - 3 * n) = omega arith in
                            rw q (z.cell (j - 3 * n) (omega arith))
                      ]
                ]
          ];
    }

-- the union of eight cells a slot, below a limit
pub rows_below : (c : List ℕ) (at n u limit : ℕ) → RunWithin c at (4 * (2 * n)) u → u ≤ limit → RunWithin c at (8 * n) limit
rows_below c at n u limit r l =
    record {
      cell = λ i h.
          let q = r.cell i (omega arith) in
          omega arith;
    }

-- ---- the counters, topic by topic

pub topics_more :
    (c : List ℕ) (n : ℕ) (caps2 caps3 : List ℕ) (p4 t acc u k : ℕ) →
    (Lanes acc → (j : ℕ) → j < t → Lanes (counters_gathered c n caps2 caps3 p4 j)) →
    u ≡ gathered c (counters_at + t * stride) k n →
    k ≡ lanes_room (get_or caps2 t 0) (get_or caps3 t 0) p4 →
    Lanes (bit_or acc u) →
    (j : ℕ) →
    j < t + 1 →
    Lanes (counters_gathered c n caps2 caps3 p4 j)
unfolding counters_gathered
topics_more c n caps2 caps3 p4 t acc u k before e f h j l =
    elim (dec_lt j t) [
      | yes b ↦ before (lanes_left acc u h) j b
      | no b ↦
          let q : j ≡ t = omega arith in
          rw q (subst Lanes (e ∙ ap (λ (i : ℕ). gathered c (counters_at + t * stride) i n) f) (lanes_right acc u h))
    ]

-- ---- each cell of a run

module _ (c : List ℕ) (at n : ℕ) where
  cell_limit : (limit : ℕ) → gathered c at (room cell_top limit) n < cell_top → (i : ℕ) → i < n → get_or c (at + i) 0 ≤ limit
  cell_limit limit h i l =
      let e = gathered_each (λ x. x < cell_top) low_left low_right c at (room cell_top limit) n h i l in
      low_limit (get_or c (at + i) 0) limit e.0 e.1

  pub run_limit : (limit : ℕ) → gathered c at (room cell_top limit) n < cell_top → RunWithin c at n limit
  run_limit limit h = record { cell = cell_limit limit h }

  cell_one : gathered c at 18446744073709551615 n < cell_top → (i : ℕ) → i < n → 1 ≤ get_or c (at + i) 0
  cell_one h i l =
      let e = gathered_each (λ x. x < cell_top) low_left low_right c at 18446744073709551615 n h i l in
      low_one (get_or c (at + i) 0) e.0 e.1

  cell_zero : gathered c at 0 n ≡ 0 → (i : ℕ) → i < n → get_or c (at + i) 0 ≡ 0
  cell_zero h i l = (gathered_each (λ x. x ≡ 0) zero_left zero_right c at 0 n h i l).0

  cell_halves :
      (low high : ℕ) →
      Halves (gathered c at (halves_room low high) n) →
      (i : ℕ) →
      i < n →
      (get_or c (at + i) 0 % 4294967296 ≤ low) × (get_or c (at + i) 0 / 4294967296 ≤ high)
  cell_halves low high h i l =
      let e = gathered_each Halves halves_left halves_right c at (halves_room low high) n h i l in
      halves_limit (get_or c (at + i) 0) low high e.0 e.1

  cell_lanes :
      (first second third : ℕ) →
      Lanes (gathered c at (lanes_room first second third) n) →
      (i : ℕ) →
      i < n →
      (get_or c (at + i) 0 % 2097152 ≤ first)
      × ((get_or c (at + i) 0 / 2097152 % 2097152 ≤ second) × (get_or c (at + i) 0 / 4398046511104 ≤ third))
  cell_lanes first second third h i l =
      let e = gathered_each Lanes lanes_left lanes_right c at (lanes_room first second third) n h i l in
      lanes_limit (get_or c (at + i) 0) first second third e.0 e.1

-- ---- the facts

at_most : (x y m : ℕ) → x ≡ y → y ≤ m → x ≤ m
at_most x y m e h = rw e h

at_least : (x y m : ℕ) → x ≡ y → m ≤ y → m ≤ x
at_least x y m e h = rw e h

place_below : (s t n : ℕ) → s < n → t < topic_count → s * topic_count + t < 8 * n
place_below s t n h l = omega arith

module _ (c : List ℕ) (n : ℕ) (u : InUse c n) where
  pub peers_within :
      (id group p5 p7 : ℕ) →
      gathered c id_at (room cell_top id) n < cell_top →
      gathered c groups_at (room cell_top group) n < cell_top →
      Halves (gathered c p57_at (halves_room p5 p7) n) →
      PeersWithin (state_of c) n id group p5 p7
  peers_within id group p5 p7 a b e =
      record {
        id = λ s h. at_most _ _ _ (id_cell c n u s h) (cell_limit c id_at n id a s h);
        group = λ s h. at_most _ _ _ (first_cell c n u s h) (cell_limit c groups_at n group b s h);
        p5 = λ s h. at_most _ _ _ (p5_cell c n u s h) (cell_halves c p57_at n p5 p7 e s h).0;
        p7 = λ s h. at_most _ _ _ (p7_cell c n u s h) (cell_halves c p57_at n p5 p7 e s h).1;
      }

  pub named :
      gathered c id_at 18446744073709551615 n < cell_top →
      gathered c groups_at 18446744073709551615 n < cell_top →
      Named (state_of c) n
  named a b =
      record {
        id = λ s h. at_least _ _ _ (id_cell c n u s h) (cell_one c id_at n a s h);
        group = λ s h. at_least _ _ _ (first_cell c n u s h) (cell_one c groups_at n b s h);
      }

  pub one_group :
      gathered c (groups_at + stride) 0 n ≡ 0 →
      gathered c (groups_at + 2 * stride) 0 n ≡ 0 →
      gathered c (groups_at + 3 * stride) 0 n ≡ 0 →
      OneGroup (state_of c) n
  one_group a b e =
      record {
        second = λ s h. second_cell c n u s h ∙ cell_zero c (groups_at + stride) n a s h;
        third = λ s h. third_cell c n u s h ∙ cell_zero c (groups_at + 2 * stride) n b s h;
        fourth = λ s h. fourth_cell c n u s h ∙ cell_zero c (groups_at + 3 * stride) n e s h;
      }

  pub no_retain : gathered c retain_at 0 n ≡ 0 → NoRetain (state_of c) n
  no_retain a = record { retain = λ s h. retain_cell c n u s h ∙ cell_zero c retain_at n a s h }

  pub ends_within : (m : ℕ) → RunWithin c ends_at (8 * n) m → EndsWithin (state_of c) n m
  ends_within m a =
      record {
        end = λ s t h l.
            at_most _ _ _ (end_cell c n u s h t l) (a.cell (s * topic_count + t) (place_below s t n h l));
      }

  module _
      (caps2 caps3 : List ℕ)
      (p4 p3b : ℕ)
      (a : (t : ℕ) → t < topic_count → Lanes (counters_gathered c n caps2 caps3 p4 t))
      (b : RunWithin c p3b_at (8 * n) p3b) where
    each :
        (s t : ℕ) →
        s < n →
        t < topic_count →
        (get_or c (counters_at + t * stride + s) 0 % 2097152 ≤ get_or caps2 t 0)
        × ((get_or c (counters_at + t * stride + s) 0 / 2097152 % 2097152 ≤ get_or caps3 t 0)
        × (get_or c (counters_at + t * stride + s) 0 / 4398046511104 ≤ p4))
    unfolding counters_gathered
    each s t h l = cell_lanes c (counters_at + t * stride) n (get_or caps2 t 0) (get_or caps3 t 0) p4 (a t l) s h

    pub counters_within : CountersWithin (state_of c) n caps2 caps3 p4 p3b
    counters_within =
        record {
          p2 = λ s t h l. at_most _ _ _ (p2_cell c n u s h t l) (each s t h l).0;
          p3 = λ s t h l. at_most _ _ _ (p3_cell c n u s h t l) (each s t h l).1.0;
          p4 = λ s t h l. at_most _ _ _ (p4_cell c n u s h t l) (each s t h l).1.1;
          p3b = λ s t h l.
              at_most _ _ _ (p3b_cell c n u s h t l)
              (b.cell (s * topic_count + t) (place_below s t n h l));
        }
