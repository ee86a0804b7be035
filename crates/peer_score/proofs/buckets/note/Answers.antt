-- `peer_score::buckets::note`: three stores into the group's bucket (`noted`).
use native.Mathlib.Omega.{arith}
use Rattle.peer_score.proofs.BucketLaws.{noted}
use Rattle.peer_score.proofs.buckets.note.Goals as goal

pub overflow_add-buckets : goal.overflow_add-buckets
overflow_add-buckets c =
    omega (arith, c.one.ensures.1, c.requires.room c.bucket-b.result)

pub overflow_add-buckets-2 : goal.overflow_add-buckets-2
overflow_add-buckets-2 c =
    omega (arith, c.one-2.ensures.1, c.requires.room c.bucket-b.result)

pub returns : goal.returns
returns c d n k =
    noted d n _ _ _ k _ _ _ _ _ c.bucket-b.ensures.0 c.head_of-head.ensures c.one.ensures.0
    c.one-2.ensures.0
