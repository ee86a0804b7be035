-- What a delivery adds to the counters of a topic record (01, "Deliveries"), and the record with it.
use Rattle.std.specs.Prelude.{ℕ, ◌+◌, ◌-◌, ◌<◌, ◌^◌, min, cond, eqb}
use Rattle.records.specs.declared.TopicRecord.{TopicRecord}
use Rattle.score.specs.declared.TopicParams.{TopicParams}
use Rattle.score.specs.Parts.{is_member}
use Rattle.score.specs.Counters.{count_most, with_counters}
use Rattle.credits.specs.declared.Addition.{Addition}

-- "adds 1000 .. (to its cap)": 1000, or what is left to the most that the counter may be
abbrev pub amount_of : ℕ → ℕ → ℕ
amount_of x most = min 1000 (most - x)

-- "for a member also to P3 (to its cap)"
unfoldable pub amount3_of : TopicParams → TopicRecord → ℕ
amount3_of t r = cond (is_member r) (amount_of r.p3 t.cap3) 0

-- "first adds 1000 to P2 (to its cap), and for a member also to P3 (to its cap)"
abbrev pub first_amounts : TopicParams → TopicRecord → Addition
first_amounts t r = record { p2 = amount_of r.p2 t.cap2; p3 = amount3_of t r; p4 = 0 }

-- "near-first does the P3 part alone"
abbrev pub near_first_amounts : TopicParams → TopicRecord → Addition
near_first_amounts t r = record { p2 = 0; p3 = amount3_of t r; p4 = 0 }

-- "invalid adds 1000 to P4. P4 .. stop at 10^6"
abbrev pub invalid_amounts : TopicRecord → Addition
invalid_amounts r = record { p2 = 0; p3 = 0; p4 = amount_of r.p4 count_most }

-- kinds: 1 first, 2 near-first, 3 invalid
unfoldable pub amounts_of : ℕ → TopicParams → TopicRecord → Addition
amounts_of kind t r =
    cond (eqb kind 1) (first_amounts t r) (cond (eqb kind 2) (near_first_amounts t r) (invalid_amounts r))

-- the record with amounts added to three of its counters; the rest of it stands
abbrev pub added_of : TopicRecord → Addition → TopicRecord
added_of r a = with_counters r (r.p2 + a.p2) (r.p3 + a.p3) (r.p4 + a.p4) r.p3b r.mesh

unfoldable pub credited_of : ℕ → TopicParams → TopicRecord → TopicRecord
credited_of kind t r = added_of r (amounts_of kind t r)

-- the sums fit
pub record Room (r : TopicRecord) (a : Addition) : Type 0 where
  pub p2 : r.p2 + a.p2 < 2 ^ 64
  pub p3 : r.p3 + a.p3 < 2 ^ 64
  pub p4 : r.p4 + a.p4 < 2 ^ 64
