-- What upper crates use of accepted codes, as the parameters stand in a router's tables: the bounds of every number's magnitude by name,
-- and the joint rules of magnitudes. Signs and further laws by field are in limits/proofs/FieldLaws.antt.
-- Assumes nothing.
use Rattle.index.proofs.Kit.{ℕ, ◌+◌, ◌*◌, ◌<◌, ◌≤◌, ◌≡◌, refl, ◌∙◌, true, arith}
use Prim.Native.Nat.{suc}
use mathlib.Core.List.{List, map}
use borrow.Author.Tests.{leb-true}
use lib.Dec.{leb, lit<}
use lib.ListN.{get_or}
use Rattle.index.proofs.Index.{every_at}
use Rattle.varint.specs.Codes.{number_of}
use Rattle.records.specs.Records.{topic_count}
use Rattle.limits.specs.Limits.{limits, limit_at, place}
use Rattle.params.specs.declared.Edition.{Edition}
use Rattle.params.specs.declared.Edition.TheVariants.{First, Second}
use Rattle.params.specs.Joint.{rule_count, cap_rule, score_rule, rule}
use Rattle.params.specs.Check.{accepted_codes}
use Rattle.limits.proofs.LimitLaws.{topic_field}
use Rattle.params.proofs.CheckLaws.{accepted_codes_lem, codes_pass}
use Rattle.limits.proofs.FieldLaws.{size, Within, most_of, least_of, loss_least, gain_code, loss_code}
use Rattle.params.proofs.CodeRules.{le_lo, le_hi, lt_lo, twice_out, sum_out, le_score, score_is, le_gossip, lt_publish, cap_of}
use Rattle.params.proofs.CodeRules.{caps_are}

-- ---- the magnitudes of the general numbers, by name
pub record General (codes : List ℕ) : Type 0 where
  pub d_lo_least : 1 ≤ size codes 0
  pub d_lo_most : size codes 0 ≤ 48
  pub d_least : 1 ≤ size codes 1
  pub d_most : size codes 1 ≤ 48
  pub d_hi_least : 1 ≤ size codes 2
  pub d_hi_most : size codes 2 ≤ 48
  pub d_out_most : size codes 3 ≤ 24
  pub d_score_most : size codes 4 ≤ 48
  pub prune_backoff_least : 1 ≤ size codes 5
  pub prune_backoff_most : size codes 5 ≤ 3600
  pub leave_backoff_least : 1 ≤ size codes 6
  pub leave_backoff_most : size codes 6 ≤ 3600
  pub retain_most : size codes 7 ≤ 86400
  pub opportunistic_most : size codes 8 ≤ 1000000
  pub graylist_least : 1 ≤ size codes 9
  pub graylist_most : size codes 9 ≤ 1000000000
  pub gossip_least : 1 ≤ size codes 10
  pub gossip_most : size codes 10 ≤ 1000000000
  pub publish_least : 1 ≤ size codes 11
  pub publish_most : size codes 11 ≤ 1000000000
  pub topic_cap_most : size codes 12 ≤ 1000000000
  pub w5_least : 1 ≤ size codes 13
  pub w5_most : size codes 13 ≤ 100
  pub w6_least : 1 ≤ size codes 14
  pub w6_most : size codes 14 ≤ 100
  pub p6_threshold_least : 1 ≤ size codes 15
  pub p6_threshold_most : size codes 15 ≤ 256
  pub w7_least : 1 ≤ size codes 16
  pub w7_most : size codes 16 ≤ 100
  pub p7_decay_least : 1 ≤ size codes 17
  pub p7_decay_most : size codes 17 ≤ 999
  pub decay_to_zero_most : size codes 18 ≤ 1000

-- ---- and of topic k's
pub record Topic (codes : List ℕ) (k : ℕ) : Type 0 where
  pub weight_most : size codes (place k 0) ≤ 1000
  pub w1_most : size codes (place k 1) ≤ 100
  pub quantum_least : 1 ≤ size codes (place k 2)
  pub quantum_most : size codes (place k 2) ≤ 3600000
  pub p1_cap_most : size codes (place k 3) ≤ 1000
  pub w2_most : size codes (place k 4) ≤ 100
  pub p2_decay_least : 1 ≤ size codes (place k 5)
  pub p2_decay_most : size codes (place k 5) ≤ 999
  pub p2_cap_most : size codes (place k 6) ≤ 1000000
  pub w3_most : size codes (place k 7) ≤ 100
  pub p3_decay_least : 1 ≤ size codes (place k 8)
  pub p3_decay_most : size codes (place k 8) ≤ 999
  pub p3_cap_least : 1 ≤ size codes (place k 9)
  pub p3_cap_most : size codes (place k 9) ≤ 1000000
  pub p3_threshold_least : 1 ≤ size codes (place k 10)
  pub p3_threshold_most : size codes (place k 10) ≤ 1000000
  pub activation_most : size codes (place k 11) ≤ 3600000
  pub w3b_most : size codes (place k 12) ≤ 100
  pub p3b_decay_least : 1 ≤ size codes (place k 13)
  pub p3b_decay_most : size codes (place k 13) ≤ 999
  pub w4_most : size codes (place k 14) ≤ 100
  pub p4_decay_least : 1 ≤ size codes (place k 15)
  pub p4_decay_most : size codes (place k 15) ≤ 999

-- ---- the joint rules, of magnitudes: what both editions ask (of D_score the first asks more)
pub record Joints (codes : List ℕ) : Type 0 where
  pub lo_d : size codes 0 ≤ size codes 1
  pub d_hi : size codes 1 ≤ size codes 2
  pub out_lo : size codes 3 < size codes 0
  pub out_twice : 2 * size codes 3 ≤ size codes 1
  pub score_d : size codes 4 ≤ size codes 1
  pub gossip_publish : size codes 10 ≤ size codes 11
  pub publish_graylist : size codes 11 < size codes 9
  pub cap : (k : ℕ) → k < topic_count → size codes (place k 10) ≤ size codes (place k 9)

-- an edition's number and codes that are accepted (a record, so that a law's edition is known from it)
pub record Accepts (n : ℕ) (codes : List ℕ) : Type 0 where
  pub passes : accepted_codes n codes ≡ true

module _ {n : ℕ} (codes : List ℕ) (accepted : Accepts n codes) where
  pub within : Within codes
  within = (codes_pass n codes accepted.passes).0

  pub general : General codes
  unfolding limit_at limits
  general =
      record {
        d_lo_least = least_of codes within 0 (lit< tt) 0 refl 1 tt;
        d_lo_most = most_of codes within 0 (lit< tt) 0 refl 48 tt;
        d_least = least_of codes within 1 (lit< tt) 1 refl 1 tt;
        d_most = most_of codes within 1 (lit< tt) 1 refl 48 tt;
        d_hi_least = least_of codes within 2 (lit< tt) 2 refl 1 tt;
        d_hi_most = most_of codes within 2 (lit< tt) 2 refl 48 tt;
        d_out_most = most_of codes within 3 (lit< tt) 3 refl 24 tt;
        d_score_most = most_of codes within 4 (lit< tt) 4 refl 48 tt;
        prune_backoff_least = least_of codes within 5 (lit< tt) 5 refl 1 tt;
        prune_backoff_most = most_of codes within 5 (lit< tt) 5 refl 3600 tt;
        leave_backoff_least = least_of codes within 6 (lit< tt) 6 refl 1 tt;
        leave_backoff_most = most_of codes within 6 (lit< tt) 6 refl 3600 tt;
        retain_most = most_of codes within 7 (lit< tt) 7 refl 86400 tt;
        opportunistic_most = most_of codes within 8 (lit< tt) 8 refl 1000000 tt;
        graylist_least = loss_least codes within 9 (lit< tt) 9 refl 1 tt;
        graylist_most = most_of codes within 9 (lit< tt) 9 refl 1000000000 tt;
        gossip_least = loss_least codes within 10 (lit< tt) 10 refl 1 tt;
        gossip_most = most_of codes within 10 (lit< tt) 10 refl 1000000000 tt;
        publish_least = loss_least codes within 11 (lit< tt) 11 refl 1 tt;
        publish_most = most_of codes within 11 (lit< tt) 11 refl 1000000000 tt;
        topic_cap_most = most_of codes within 12 (lit< tt) 12 refl 1000000000 tt;
        w5_least = least_of codes within 13 (lit< tt) 13 refl 1 tt;
        w5_most = most_of codes within 13 (lit< tt) 13 refl 100 tt;
        w6_least = loss_least codes within 14 (lit< tt) 14 refl 1 tt;
        w6_most = most_of codes within 14 (lit< tt) 14 refl 100 tt;
        p6_threshold_least = least_of codes within 15 (lit< tt) 15 refl 1 tt;
        p6_threshold_most = most_of codes within 15 (lit< tt) 15 refl 256 tt;
        w7_least = loss_least codes within 16 (lit< tt) 16 refl 1 tt;
        w7_most = most_of codes within 16 (lit< tt) 16 refl 100 tt;
        p7_decay_least = least_of codes within 17 (lit< tt) 17 refl 1 tt;
        p7_decay_most = most_of codes within 17 (lit< tt) 17 refl 999 tt;
        decay_to_zero_most = most_of codes within 18 (lit< tt) 18 refl 1000 tt;
      }

  pub topic : (k : ℕ) → k < topic_count → Topic codes k
  unfolding limit_at limits
  topic k h =
      record {
        weight_most = most_of codes within (place k 0) (omega arith) 19 (topic_field k 0 (lit< tt)) 1000 tt;
        w1_most = most_of codes within (place k 1) (omega arith) 20 (topic_field k 1 (lit< tt)) 100 tt;
        quantum_least = least_of codes within (place k 2) (omega arith) 21 (topic_field k 2 (lit< tt)) 1 tt;
        quantum_most = most_of codes within (place k 2) (omega arith) 21 (topic_field k 2 (lit< tt)) 3600000 tt;
        p1_cap_most = most_of codes within (place k 3) (omega arith) 22 (topic_field k 3 (lit< tt)) 1000 tt;
        w2_most = most_of codes within (place k 4) (omega arith) 23 (topic_field k 4 (lit< tt)) 100 tt;
        p2_decay_least = least_of codes within (place k 5) (omega arith) 24 (topic_field k 5 (lit< tt)) 1 tt;
        p2_decay_most = most_of codes within (place k 5) (omega arith) 24 (topic_field k 5 (lit< tt)) 999 tt;
        p2_cap_most = most_of codes within (place k 6) (omega arith) 25 (topic_field k 6 (lit< tt)) 1000000 tt;
        w3_most = most_of codes within (place k 7) (omega arith) 26 (topic_field k 7 (lit< tt)) 100 tt;
        p3_decay_least = least_of codes within (place k 8) (omega arith) 27 (topic_field k 8 (lit< tt)) 1 tt;
        p3_decay_most = most_of codes within (place k 8) (omega arith) 27 (topic_field k 8 (lit< tt)) 999 tt;
        p3_cap_least = least_of codes within (place k 9) (omega arith) 28 (topic_field k 9 (lit< tt)) 1 tt;
        p3_cap_most = most_of codes within (place k 9) (omega arith) 28 (topic_field k 9 (lit< tt)) 1000000 tt;
        p3_threshold_least = least_of codes within (place k 10) (omega arith) 29 (topic_field k 10 (lit< tt)) 1 tt;
        p3_threshold_most = most_of codes within (place k 10) (omega arith) 29 (topic_field k 10 (lit< tt)) 1000000 tt;
        activation_most = most_of codes within (place k 11) (omega arith) 30 (topic_field k 11 (lit< tt)) 3600000 tt;
        w3b_most = most_of codes within (place k 12) (omega arith) 31 (topic_field k 12 (lit< tt)) 100 tt;
        p3b_decay_least = least_of codes within (place k 13) (omega arith) 32 (topic_field k 13 (lit< tt)) 1 tt;
        p3b_decay_most = most_of codes within (place k 13) (omega arith) 32 (topic_field k 13 (lit< tt)) 999 tt;
        w4_most = most_of codes within (place k 14) (omega arith) 33 (topic_field k 14 (lit< tt)) 100 tt;
        p4_decay_least = least_of codes within (place k 15) (omega arith) 34 (topic_field k 15 (lit< tt)) 1 tt;
        p4_decay_most = most_of codes within (place k 15) (omega arith) 34 (topic_field k 15 (lit< tt)) 999 tt;
      }

  abbrev edition : Edition
  edition = (accepted_codes_lem n codes accepted.passes).edition

  holds : (k : ℕ) → k < rule_count → rule (map number_of codes) edition k ≡ true
  holds k h = every_at (rule (map number_of codes) edition) rule_count k (codes_pass n codes accepted.passes).1 h

  -- a rule that holds, by the codes
  le_by : (u v k : ℕ) → k < rule_count → leb u v ≡ rule (map number_of codes) edition k → u ≤ v
  le_by u v k h e = leb-true u v (e ∙ holds k h)

  -- D_score is at most D in both editions
  score_le : get_or codes 4 0 ≤ get_or codes 1 0
  score_le = go edition (score_is codes within edition ∙ holds 4 (lit< tt))
    where
      go : (e : Edition) → score_rule (map number_of codes) e ≡ true → get_or codes 4 0 ≤ get_or codes 1 0
      go First q = omega (arith, leb-true (get_or codes 4 0 + get_or codes 3 0) (get_or codes 1 0) (sum_out codes within ∙ q))
      go Second q = leb-true (get_or codes 4 0) (get_or codes 1 0) (le_score codes within ∙ q)

  pub joints : Joints codes
  unfolding limit_at limits
  joints =
      let c0 = gain_code codes within 0 (lit< tt) 0 refl tt in
      let c1 = gain_code codes within 1 (lit< tt) 1 refl tt in
      let c2 = gain_code codes within 2 (lit< tt) 2 refl tt in
      let c3 = gain_code codes within 3 (lit< tt) 3 refl tt in
      let c4 = gain_code codes within 4 (lit< tt) 4 refl tt in
      let c9 = loss_code codes within 9 (lit< tt) 9 refl tt in
      let c10 = loss_code codes within 10 (lit< tt) 10 refl tt in
      let c11 = loss_code codes within 11 (lit< tt) 11 refl tt in
      record {
        lo_d = omega (arith, le_by (get_or codes 0 0) (get_or codes 1 0) 0 (lit< tt) (le_lo codes within edition));
        d_hi = omega (arith, le_by (get_or codes 1 0) (get_or codes 2 0) 1 (lit< tt) (le_hi codes within edition));
        out_lo = omega (arith, le_by (suc (get_or codes 3 0)) (get_or codes 0 0) 2 (lit< tt) (lt_lo codes within edition));
        out_twice = omega (arith, le_by (2 * get_or codes 3 0) (get_or codes 1 0) 3 (lit< tt) (twice_out codes within edition));
        score_d = omega (arith, score_le);
        gossip_publish = omega (arith, le_by (get_or codes 10 0) (get_or codes 11 0) 5 (lit< tt) (le_gossip codes within edition));
        publish_graylist = omega (arith, le_by (suc (get_or codes 11 0)) (get_or codes 9 0) 6 (lit< tt) (lt_publish codes within edition));
        cap = λ k h. cap_le k h;
      }
    where
      cap_le : (k : ℕ) → k < topic_count → size codes (place k 10) ≤ size codes (place k 9)
      cap_le k h =
          omega (
            arith,
            leb-true (get_or codes (place k 10) 0) (get_or codes (place k 9) 0)
                (cap_of codes within k h
                ∙ every_at (cap_rule (map number_of codes)) topic_count k (caps_are codes within edition ∙ holds 7 (lit< tt)) h),
          )
