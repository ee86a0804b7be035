-- Deliveries and decay, by the sheet's own numbers.
use Rattle.std.specs.Prelude.{ℕ, ◌+◌, ◌-◌, ◌*◌, ◌/◌, ◌<◌, min, ◌≡◌, ◌≢◌, cond, not, ◌&&◌, List, eqb, ltb, nat_abs}
use Rattle.params.specs.declared.Params.{Params}
use Rattle.limits.specs.Limits.{at}
use Rattle.records.specs.declared.TopicRecord.{TopicRecord}
use Rattle.records.specs.Records.{State, slot_count, topic_count, place, joined_in, code_in, peer_in, topic_in}
use Rattle.rules.specs.Reply.{number_of}
use Rattle.rules.specs.Calls.{deliver, decay}
use Rattle.rules.specs.Step.{step}
use Rattle.call_lists.specs.Lists.{Start, Made, after}
use Rattle.call_lists.specs.Demand3.{Accepted}
use Rattle.promises.specs.Parameters.{topic_number}

-- what neither deliveries nor decay alter
pub record SamePlace (r q : TopicRecord) : Type 0 where
  pub subscribed : q.subscribed ≡ r.subscribed
  pub member : q.member ≡ r.member
  pub graft : q.graft ≡ r.graft

-- ---- deliveries: kind 1 first, 2 near-first, 3 invalid; numbers 6 and 9 of a topic are the caps of P2 and P3
-- "first adds 1000 to P2 (to its cap), and for a member also to P3 (to its cap); near-first does the P3 part alone; invalid adds 1000 to
-- P4. P4 and P7 stop at 10^6"
pub record Counted (params : Params) (t kind : ℕ) (r q : TopicRecord) : Type 0 where
  pub p2 : q.p2 ≡ cond (eqb kind 1) (min (r.p2 + 1000) (topic_number params t 6)) r.p2
  pub p3 : q.p3 ≡ cond (not (eqb kind 3) && eqb r.member 1) (min (r.p3 + 1000) (topic_number params t 9)) r.p3
  pub p4 : q.p4 ≡ cond (eqb kind 3) (min (r.p4 + 1000) 1000000) r.p4
  pub p3b : q.p3b ≡ r.p3b
  pub mesh : q.mesh ≡ r.mesh
  pub same : SamePlace r q

pub record Delivered (params : Params) (t kind s : ℕ) (st u : State) : Type 0 where
  pub counters : Counted params t kind (topic_in st (place s t)) (topic_in u (place s t))
  -- "A delivery alters the counters of one record and no other record."
  pub others : (k : ℕ) → k ≢ place s t → topic_in u k ≡ topic_in st k
  pub peers : (i : ℕ) → peer_in u i ≡ peer_in st i
  pub joined : (i : ℕ) → joined_in u i ≡ joined_in st i
  pub codes : (i : ℕ) → code_in u i ≡ code_in st i

abbrev pub Deliveries : Type 0
Deliveries =
    (start : Start) (calls : List Made) →
    Accepted start →
    (time t kind s room : ℕ) →
    s < slot_count →
    (peer_in (after start calls) s).status ≡ 1 →
    number_of (step (after start calls) (deliver time (peer_in (after start calls) s).id t kind) room).answer ≡ 0 →
    Delivered start.params t kind s (after start calls)
    (step (after start calls) (deliver time (peer_in (after start calls) s).id t kind) room).state

-- ---- decay: number 18 is decay-to-zero, 17 P7's factor; a topic's factors are its numbers 5, 8, 13 and 15
-- "counter × factor / 1000, rounded down; below decay-to-zero [..] it becomes 0"
abbrev pub fades : ℕ → ℕ → ℕ → ℕ
fades floor factor x = cond (ltb (x * factor / 1000) floor) 0 (x * factor / 1000)

abbrev pub to_zero : Params → ℕ
to_zero params = nat_abs (at params.numbers 18)

-- "(times 1000 for P3b)"; "Each member's mesh time becomes now minus graft time"
pub record Faded (params : Params) (time t : ℕ) (r q : TopicRecord) : Type 0 where
  pub p2 : q.p2 ≡ fades (to_zero params) (topic_number params t 5) r.p2
  pub p3 : q.p3 ≡ fades (to_zero params) (topic_number params t 8) r.p3
  pub p3b : q.p3b ≡ fades (to_zero params * 1000) (topic_number params t 13) r.p3b
  pub p4 : q.p4 ≡ fades (to_zero params) (topic_number params t 15) r.p4
  pub mesh : q.mesh ≡ cond (eqb r.member 1) (time - r.graft) r.mesh
  pub same : SamePlace r q

pub record Decayed (params : Params) (time : ℕ) (st u : State) : Type 0 where
  -- "All four and P7 decay."
  pub counters :
      (s t : ℕ) →
      s < slot_count →
      t < topic_count →
      (peer_in st s).status ≡ 1 →
      Faded params time t (topic_in st (place s t)) (topic_in u (place s t))
  pub p7 :
      (s : ℕ) → s < slot_count → (peer_in st s).status ≡ 1 → (peer_in u s).p7
      ≡ fades (to_zero params) (nat_abs (at params.numbers 17)) (peer_in st s).p7
  -- "connected peers only"
  pub peers : (s : ℕ) → s < slot_count → (peer_in st s).status ≢ 1 → peer_in u s ≡ peer_in st s
  pub topics :
      (s t : ℕ) → s < slot_count → t < topic_count → (peer_in st s).status ≢ 1 → topic_in u (place s t) ≡ topic_in st (place s t)

abbrev pub Decay : Type 0
Decay =
    (start : Start) (calls : List Made) →
    Accepted start →
    (time room : ℕ) →
    number_of (step (after start calls) (decay time) room).answer ≡ 0 →
    Decayed start.params time (after start calls) (step (after start calls) (decay time) room).state
