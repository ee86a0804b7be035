-- The 147 numbers as 19 general ones and, field by field, those of the 8 topics: a test of every number is a test of all of these.
-- Assumes nothing.
use Rattle.index.proofs.Kit.{ℕ, ◌+◌, ◌-◌, ◌<◌, ◌≤◌, arith, ◌≡◌, refl, sym, ap, ◌∙◌, Bool, true, false, every, by_test, by_order}
use Prim.Native.Nat.{◌/◌, ◌%◌}
use mathlib.Core.Bool.{◌&&◌}
use mathlib.Core.List.{List, map}
use lib.ListN.{get_or}
use lib.Signed.{le_z}
use mir.Syntax.{w64}
use mir.Val.{to_z, of_z}
use Rattle.index.proofs.Index.{every_at, every_by, every_same}
use Rattle.varint.specs.Codes.{number_of}
use Rattle.records.specs.Records.{topic_count, param_count}
use Rattle.limits.specs.declared.Limit.{Limit}
use Rattle.limits.specs.Limits.{general_count, of_topic, place, limit_at, in_limits}
use Rattle.limits.proofs.LimitLaws.{topic_field, lies_at}
use Rattle.limits.proofs.FieldLaws.{code_in_lem}

-- the j-th number of every topic
pub field_is :
    (codes : List ℕ) (j : ℕ) (l : Limit) → j < of_topic → l ≡ limit_at (general_count + j) →
    every topic_count (λ k.
    let x = number_of (get_or codes (place k j) 0) in
    le_z (to_z w64 (of_z w64 l.low)) x && le_z x (to_z w64 (of_z w64 l.high)))
    ≡ every topic_count (λ k. in_limits (map number_of codes) (place k j))
field_is codes j l h e =
    every_same _ (λ k. in_limits (map number_of codes) (place k j)) topic_count (λ k b.
    let i = place k j in
    code_in_lem codes i _ (lies_at (number_of (get_or codes i 0)) (general_count + j) i l _ e (sym (topic_field k j h)) refl))

module _ (f : ℕ → Bool) where
  -- number j of topic k, by field
  abbrev pub field : ℕ → Bool
  field j = every topic_count (λ k. f (place k j))

  pub general_fails : every general_count f ≡ false → false ≡ every param_count f
  general_fails e =
      by_test (false ≡ every param_count f) (every param_count f)
      (λ a. sym e ∙ every_by f general_count (λ i l. every_at f param_count i a (omega arith)) ∙ sym a)
      (λ a. sym a)

  pub fields_are : every general_count f ≡ true → (r : Bool) → r ≡ every of_topic field → r ≡ every param_count f
  fields_are g r e =
      e
      ∙ by_test
      (every of_topic field ≡ every param_count f)
      (every of_topic field)
      (λ t.
      t
      ∙ sym (every_by f param_count (λ i h.
      by_order (f i ≡ true) i general_count
      (λ (l : i < general_count). every_at f general_count i g l)
      (λ (l : general_count ≤ i).
      let k : ℕ = (i - general_count) / of_topic in
      let j : ℕ = (i - general_count) % of_topic in
      let z : place k j ≡ i = omega arith in
      ap f (sym z) ∙ every_at (λ m. f (place m j)) topic_count k (every_at field of_topic j t (omega arith)) (omega arith)))))
      (λ t.
      by_test (every of_topic field ≡ every param_count f) (every param_count f)
      (λ a. every_by field of_topic
      (λ j lj. every_by (λ k. f (place k j)) topic_count (λ k lk. every_at f param_count (place k j) a (omega arith))) ∙ sym a)
      (λ a. t ∙ sym a))
