-- The joint rules (01, "Joint rules, in order"), as a list by edition: the second replaces an entry of it (02, order 14).
use Rattle.std.specs.Prelude.{◌≡◌, ℕ, Bool, true, List, [], ◌∷◌, map, length, get_or, ℤ, pos, ◌+ℤ◌, ◌*ℤ◌}
use Rattle.std.specs.Int.Signed.{le_z, lt_z}
use Rattle.index.specs.Index.{every}
use Rattle.records.specs.Records.{topic_count, param_count}
use Rattle.records.specs.Parameters.{d_lo_at, d_at, d_hi_at, d_out_at, d_score_at, graylist_threshold_at, gossip_threshold_at, publish_threshold_at}
use Rattle.records.specs.Parameters.{p3_cap_at, p3_threshold_at}
use Rattle.varint.specs.Codes.{number_of}
use Rattle.limits.specs.Limits.{place, at, in_limits}
use Rattle.params.specs.declared.Edition.{Edition}
use Rattle.params.specs.declared.Edition.TheVariants.{First, Second}

-- codes of 147 numbers, each between its limits: the rules are tested of these alone
abbrev pub WithinLimits : List ℕ → Type 0
WithinLimits codes = (length codes ≡ param_count) × (every param_count (in_limits (map number_of codes)) ≡ true)

abbrev pub rule_count : ℕ
rule_count = 8

-- in topic k, P3 cap ≥ P3 threshold
unfoldable pub cap_rule : List ℤ → ℕ → Bool
cap_rule xs k = le_z (at xs (place k p3_threshold_at)) (at xs (place k p3_cap_at))

module _ (xs : List ℤ) where
  abbrev d_lo : ℤ
  d_lo = at xs d_lo_at

  abbrev d : ℤ
  d = at xs d_at

  abbrev d_hi : ℤ
  d_hi = at xs d_hi_at

  abbrev d_out : ℤ
  d_out = at xs d_out_at

  abbrev d_score : ℤ
  d_score = at xs d_score_at

  abbrev graylist : ℤ
  graylist = at xs graylist_threshold_at

  abbrev gossip : ℤ
  gossip = at xs gossip_threshold_at

  abbrev publish : ℤ
  publish = at xs publish_threshold_at

  -- D_score + D_out ≤ D. "Edition 2 [..], in place of the joint rule on D_score and under its number, asks only D_score ≤ D"
  abbrev pub score_rule : Edition → Bool
  score_rule First = le_z (d_score +ℤ d_out) d
  score_rule Second = le_z d_score d

  unfoldable pub joint : Edition → List Bool
  joint e =
      -- D_lo ≤ D
      le_z d_lo d
      -- D ≤ D_hi
      ∷ le_z d d_hi
      -- D_out < D_lo
      ∷ lt_z d_out d_lo
      -- 2·D_out ≤ D
      ∷ le_z (pos 2 *ℤ d_out) d
      -- the rule on D_score
      ∷ score_rule e
      -- publish ≤ gossip
      ∷ le_z publish gossip
      -- graylist < publish
      ∷ lt_z graylist publish
      -- in every topic P3 cap ≥ P3 threshold
      ∷ every topic_count (cap_rule xs)
      ∷ []

  -- rule k of an edition holds
  unfoldable pub rule : Edition → ℕ → Bool
  rule e k = get_or (joint e) k true
