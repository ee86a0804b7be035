-- `peer_score::buckets::together`: none, the head's count, none where there is no surplus, or the exact one.
use native.Mathlib.Omega.{arith}
use Rattle.peer_score.proofs.BucketLaws.{told_none, told_head, told_few, told_exact}
use Rattle.peer_score.proofs.buckets.together.Goals as goal

pub returns-then-held-eq0 : goal.returns-then-held-eq0
returns-then-held-eq0 c = told_none _ _ _ c.if-held-eq0.true

pub bucket-b-requires : goal.bucket-b-requires
bucket-b-requires c = omega (arith, c.requires.fits)

pub overflow_cast-held : goal.overflow_cast-held
overflow_cast-held c = omega (arith, c.requires.fits)

pub returns-then-buckets-b : goal.returns-then-buckets-b
returns-then-buckets-b c =
    let p = c.requires in
    let t = told_head _ _ _ _ p.buckets _ _ _ c.if-held-eq0.false c.bucket-b.ensures.0 c.if-buckets-b.true in
    rw c.wide.ensures t

pub returns-then-n-threshold : goal.returns-then-n-threshold
returns-then-n-threshold c =
    let p = c.requires in
    told_few _ _ _ _ p.buckets _ _ _ c.if-held-eq0.false c.bucket-b.ensures.0 c.if-buckets-b.false
    (rw (← c.wide-n.ensures) c.if-n-threshold.true)

pub returns : goal.returns
returns c =
    told_exact _ _ _ _ c.if-held-eq0.false c.sharing_of.ensures
