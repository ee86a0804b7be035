-- What the cells of a slot in use are in the state.
-- Assumes nothing.
use Rattle.std.proofs.Common.{◌≡◌, ℕ, ◌+◌, ◌*◌, ◌/◌, ◌%◌, ◌<◌, List, get_or, sym, refl, ap, ◌∙◌, arith}
use Rattle.records.specs.declared.Peer.{Peer}
use Rattle.records.specs.declared.TopicRecord.{TopicRecord}
use Rattle.records.specs.Records.{slot_count, topic_count, place, peer_in, topic_in}
use Rattle.layout.specs.View.{place_count, stride, id_at, groups_at, p57_at, retain_at, ends_at, counters_at, p3b_at, used_of, live_at, column_of}
use Rattle.layout.specs.View.{counter_of, topic_raw, topic_at, peer_raw, peer_at, state_of}
use Rattle.layout.proofs.ViewLaws.{live_in, topic_load, peer_load}
use Rattle.layout.proofs.CellLaws.{id_is, end_is, p3b_is}
use Rattle.columns.specs.Within.{InUse}

module _ (c : List ℕ) (n : ℕ) (u : InUse c n) (s : ℕ) (h : s < n) where
  slot : s < slot_count
  slot = omega (arith, u.slots)

  mark : s < used_of c
  mark = omega (arith, u.mark)

  -- column j
  column : (j : ℕ) → live_at c s (column_of j s) ≡ get_or c (column_of j s) 0
  column j = live_in c s (column_of j s) mark

  raw_groups :
      ((peer_at c s).groups.first ≡ live_at c s (column_of 1 s))
      × (((peer_at c s).groups.second ≡ live_at c s (column_of 2 s))
      × (((peer_at c s).groups.third ≡ live_at c s (column_of 3 s)) × ((peer_at c s).groups.fourth ≡ live_at c s (column_of 4 s))))
  unfolding peer_at peer_raw
  raw_groups = (refl, (refl, (refl, refl)))

  raw_halves :
      ((peer_at c s).p5 ≡ live_at c s (column_of 5 s) % 4294967296) × ((peer_at c s).p7 ≡ live_at c s (column_of 5 s) / 4294967296)
  unfolding peer_at peer_raw
  raw_halves = (refl, refl)

  raw_retain : (peer_at c s).retain ≡ live_at c s (column_of 6 s)
  unfolding peer_at peer_raw
  raw_retain = refl

  abbrev p : Peer
  p = peer_in (state_of c) s

  q : p ≡ peer_at c s
  q = sym (peer_load c s slot)

  pub id_cell : p.id ≡ get_or c (id_at + s) 0
  id_cell = id_is c s slot mark

  pub first_cell : p.groups.first ≡ get_or c (groups_at + s) 0
  first_cell = ap (λ (r : Peer). r.groups.first) q ∙ raw_groups.0 ∙ column 1

  pub second_cell : p.groups.second ≡ get_or c (groups_at + stride + s) 0
  second_cell = ap (λ (r : Peer). r.groups.second) q ∙ raw_groups.1.0 ∙ column 2

  pub third_cell : p.groups.third ≡ get_or c (groups_at + 2 * stride + s) 0
  third_cell = ap (λ (r : Peer). r.groups.third) q ∙ raw_groups.1.1.0 ∙ column 3

  pub fourth_cell : p.groups.fourth ≡ get_or c (groups_at + 3 * stride + s) 0
  fourth_cell = ap (λ (r : Peer). r.groups.fourth) q ∙ raw_groups.1.1.1 ∙ column 4

  pub p5_cell : p.p5 ≡ get_or c (p57_at + s) 0 % 4294967296
  p5_cell = ap (λ (r : Peer). r.p5) q ∙ raw_halves.0 ∙ ap (λ (x : ℕ). x % 4294967296) (column 5)

  pub p7_cell : p.p7 ≡ get_or c (p57_at + s) 0 / 4294967296
  p7_cell = ap (λ (r : Peer). r.p7) q ∙ raw_halves.1 ∙ ap (λ (x : ℕ). x / 4294967296) (column 5)

  pub retain_cell : p.retain ≡ get_or c (retain_at + s) 0
  retain_cell = ap (λ (r : Peer). r.retain) q ∙ raw_retain ∙ column 6

  module _ (t : ℕ) (l : t < topic_count) where
    pub end_cell : get_or p.backoff t 0 ≡ get_or c (ends_at + (s * topic_count + t)) 0
    end_cell =
        let e : ends_at + s * 8 + t ≡ ends_at + (s * topic_count + t) = omega arith in
        end_is c s slot mark t l ∙ ap (λ (i : ℕ). get_or c i 0) e

    in_places : place s t < place_count
    in_places = omega (arith, slot)

    of_slot : place s t / 8 ≡ s
    of_slot = omega arith

    in_use : place s t / 8 < used_of c
    in_use = rw of_slot mark

    counter_at : counter_of (place s t) ≡ counters_at + t * stride + s
    counter_at = omega arith

    abbrev r : TopicRecord
    r = topic_in (state_of c) (place s t)

    raw_lanes :
        ((topic_at c (place s t)).p2 ≡ live_at c (place s t / 8) (counter_of (place s t)) % 2097152)
        × (((topic_at c (place s t)).p3 ≡ live_at c (place s t / 8) (counter_of (place s t)) / 2097152 % 2097152)
        × ((topic_at c (place s t)).p4 ≡ live_at c (place s t / 8) (counter_of (place s t)) / 4398046511104))
    unfolding topic_at topic_raw
    raw_lanes = (refl, (refl, refl))

    counters : live_at c (place s t / 8) (counter_of (place s t)) ≡ get_or c (counters_at + t * stride + s) 0
    counters = live_in c (place s t / 8) (counter_of (place s t)) in_use ∙ ap (λ (i : ℕ). get_or c i 0) counter_at

    q_topic : r ≡ topic_at c (place s t)
    q_topic = sym (topic_load c (place s t) in_places)

    pub p2_cell : r.p2 ≡ get_or c (counters_at + t * stride + s) 0 % 2097152
    p2_cell = ap (λ (x : TopicRecord). x.p2) q_topic ∙ raw_lanes.0 ∙ ap (λ (x : ℕ). x % 2097152) counters

    pub p3_cell : r.p3 ≡ get_or c (counters_at + t * stride + s) 0 / 2097152 % 2097152
    p3_cell = ap (λ (x : TopicRecord). x.p3) q_topic ∙ raw_lanes.1.0 ∙ ap (λ (x : ℕ). x / 2097152 % 2097152) counters

    pub p4_cell : r.p4 ≡ get_or c (counters_at + t * stride + s) 0 / 4398046511104
    p4_cell = ap (λ (x : TopicRecord). x.p4) q_topic ∙ raw_lanes.1.1 ∙ ap (λ (x : ℕ). x / 4398046511104) counters

    pub p3b_cell : r.p3b ≡ get_or c (p3b_at + (s * topic_count + t)) 0
    p3b_cell = p3b_is c (place s t) in_places in_use
