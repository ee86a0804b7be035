-- An idle record: its numbers by name, and its share of a score, which is nothing.
-- Assumes nothing.
use Prim.Native.Nat.{ℕ, ◌+◌, ◌*◌}
use mathlib.Core.Path.{◌≡◌, refl, ap₂}
use mathlib.Core.Bool.{true, false}
use native.Mathlib.Omega.{arith}
use lib.Dec.{eqb}
use borrow.Author.Tests.{eqb-true, not-true}
use Rattle.index.proofs.Index.{both}
use Rattle.records.specs.declared.TopicRecord.{TopicRecord}
use Rattle.records.specs.Records.{no_topic}
use Rattle.score.specs.declared.TopicParams.{TopicParams}
use Rattle.score.specs.Parts.{part1_of, part2_of, part3_of, part4_of}
use Rattle.score.specs.Sums.{share_of, no_balance}
use Rattle.peer_score.specs.Idle.{is_idle}

pub record Idle (r : TopicRecord) : Type 0 where
  pub p2 : r.p2 ≡ 0
  pub p3 : r.p3 ≡ 0
  pub p4 : r.p4 ≡ 0
  pub p3b : r.p3b ≡ 0
  pub member : eqb r.member 1 ≡ false

pub idle_of : (r : TopicRecord) → is_idle r ≡ true → Idle r
unfolding is_idle
idle_of r e =
    let a = both (eqb r.p2 0) _ e in
    let b = both (eqb r.p3 0) _ a.1 in
    let c = both (eqb r.p4 0) _ b.1 in
    let d = both (eqb r.p3b 0) _ c.1 in
    record {
      p2 = eqb-true r.p2 0 a.0;
      p3 = eqb-true r.p3 0 b.0;
      p4 = eqb-true r.p4 0 c.0;
      p3b = eqb-true r.p3b 0 d.0;
      member = not-true (eqb r.member 1) d.1;
    }

-- the record of zeros is idle
pub none_idle : Idle no_topic
none_idle = record { p2 = refl; p3 = refl; p4 = refl; p3b = refl; member = refl }

nothing : (w a b c x y z : ℕ) → x ≡ 0 → y ≡ 0 → z ≡ 0 → 0 ≡ w * (a * x + b * y + c * z)
nothing w a b c x y z ex ey ez =
    let n : a * x + b * y + c * z ≡ 0 = rw (ex, ey, ez) (omega arith) in
    rw n (omega arith)

module _ (t : TopicParams) (r : TopicRecord) (i : Idle r) where
  idle_1 : part1_of t r ≡ 0
  unfolding part1_of
  idle_1 = rw i.member

  idle_2 : part2_of r ≡ 0
  idle_2 = rw i.p2

  idle_3 : part3_of t r ≡ 0
  unfolding part3_of
  idle_3 = rw i.member

  idle_4 : part4_of r ≡ 0
  idle_4 = rw i.p4

  pub idle_share : no_balance ≡ share_of t r
  unfolding share_of
  idle_share =
      let gain : 0 ≡ t.weight * (t.w1 * part1_of t r + t.w2 * part2_of r) = rw (idle_1, idle_2) (omega arith) in
      let loss = nothing t.weight t.w3 t.w3b t.w4 _ _ _ idle_3 i.p3b idle_4 in
      ap₂ (λ (g l : ℕ). record { gain = g; loss = l }) gain loss
