-- The ends of the functions that compute a part, as the code reaches them.
-- Assumes nothing.
use Prim.Native.Nat.{◌-◌, ◌*◌, ◌/◌, min}
use mathlib.Core.Path.{◌≡◌}
use mathlib.Core.Bool.{true, false, ◌&&◌}
use borrow.Author.Tests.{eq-eqb, ne_eqb}
use lib.Dec.{ltb}
use Rattle.records.specs.declared.TopicRecord.{TopicRecord}
use Rattle.score.specs.declared.TopicParams.{TopicParams}
use Rattle.score.specs.Parts.{is_member, square, part1_of, part3_of}

module _ (t : TopicParams) (r : TopicRecord) where
  pub part1_member : r.member ≡ 1 → min (r.mesh / t.quantum) t.cap1 * 1000000 ≡ part1_of t r
  unfolding part1_of
  part1_member e = rw (eq-eqb r.member 1 e)

  pub part1_other : (r.member ≡ 1 → ⊥) → 0 ≡ part1_of t r
  unfolding part1_of
  part1_other n = rw (ne_eqb r.member 1 n)

  pub part3_short :
      is_member r && (ltb t.activation r.mesh && ltb r.p3 t.threshold) ≡ true →
      square (t.threshold - r.p3) ≡ part3_of t r
  unfolding part3_of
  part3_short e = rw e

  pub part3_none :
      is_member r && (ltb t.activation r.mesh && ltb r.p3 t.threshold) ≡ false →
      0 ≡ part3_of t r
  unfolding part3_of
  part3_none e = rw e

  pub part3_other : (r.member ≡ 1 → ⊥) → 0 ≡ part3_of t r
  unfolding part3_of
  part3_other n = rw (ne_eqb r.member 1 n)
