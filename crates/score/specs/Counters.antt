-- Deliveries and decay on one record, field by field (01, "Deliveries" and "Decay, connected peers only").
use Rattle.std.specs.Prelude.{ℕ, ◌+◌, ◌-◌, ◌*◌, ◌/◌, min, cond, ltb}
use Rattle.records.specs.declared.TopicRecord.{TopicRecord}
use Rattle.score.specs.declared.TopicParams.{TopicParams}
use Rattle.score.specs.Parts.{is_member, part3_of}

-- "P4 and P7 stop at 10^6, P3b at 10^12"
abbrev pub count_most : ℕ
count_most = 1000000

abbrev pub deficit_most : ℕ
deficit_most = 1000000000000

-- a record with other counters
abbrev pub with_counters : TopicRecord → ℕ → ℕ → ℕ → ℕ → ℕ → TopicRecord
with_counters r p2 p3 p4 p3b mesh =
    record {
      p2 = p2;
      p3 = p3;
      p4 = p4;
      p3b = p3b;
      subscribed = r.subscribed;
      member = r.member;
      graft = r.graft;
      mesh = mesh;
    }

-- "adds 1000 .. (to its cap)"
abbrev pub raised_of : ℕ → ℕ → ℕ
raised_of x most = min (x + 1000) most

-- "for a member also to P3 (to its cap)"
unfoldable pub raised3_of : TopicParams → TopicRecord → ℕ
raised3_of t r = cond (is_member r) (raised_of r.p3 t.cap3) r.p3

-- "first adds 1000 to P2 (to its cap), and for a member also to P3 (to its cap)"
unfoldable pub first_of : TopicParams → TopicRecord → TopicRecord
first_of t r = with_counters r (raised_of r.p2 t.cap2) (raised3_of t r) r.p4 r.p3b r.mesh

-- "near-first does the P3 part alone"
unfoldable pub near_first_of : TopicParams → TopicRecord → TopicRecord
near_first_of t r = with_counters r r.p2 (raised3_of t r) r.p4 r.p3b r.mesh

-- "invalid adds 1000 to P4"
unfoldable pub invalid_of : TopicRecord → TopicRecord
invalid_of r = with_counters r r.p2 r.p3 (raised_of r.p4 count_most) r.p3b r.mesh

-- "P3b grows by P3 as it stands when we PRUNE a member whose score is negative"
unfoldable pub grown_of : TopicParams → TopicRecord → TopicRecord
grown_of t r = with_counters r r.p2 r.p3 r.p4 (min (r.p3b + part3_of t r) deficit_most) r.mesh

-- "counter × factor / 1000, rounded down; below decay-to-zero .. it becomes 0"
unfoldable pub faded_of : ℕ → ℕ → ℕ → ℕ
faded_of floor factor x = cond (ltb (x * factor / 1000) floor) 0 (x * factor / 1000)

-- "Each member's mesh time becomes now minus graft time"
unfoldable pub mesh_of : ℕ → TopicRecord → ℕ
mesh_of time r = cond (is_member r) (time - r.graft) r.mesh

-- "All four .. decay", P3b's floor "times 1000"
unfoldable pub decayed_of : TopicParams → ℕ → ℕ → TopicRecord → TopicRecord
decayed_of t floor time r =
    with_counters r
    (faded_of floor t.decay2 r.p2)
    (faded_of floor t.decay3 r.p3)
    (faded_of floor t.decay4 r.p4)
    (faded_of (floor * 1000) t.decay3b r.p3b)
    (mesh_of time r)
