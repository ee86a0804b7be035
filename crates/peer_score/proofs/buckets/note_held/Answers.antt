-- `peer_score::buckets::note_held`: one more of the group, or nothing of none.
use native.Mathlib.Omega.{arith}
use Rattle.peer_score.proofs.BucketLaws.{held_some, held_none}
use Rattle.peer_score.proofs.buckets.note_held.Goals as goal

pub note-requires : goal.note-requires
note-requires c =
    let p = c.requires in
    record { room = p.room; fits = omega (arith, p.fits) }

pub returns-then-held-ge1 : goal.returns-then-held-ge1
returns-then-held-ge1 c d n k =
    held_some d n _ _ _ _ c.if-held-ge1.true (c.note.ensures d n k)

pub returns-else-held-ge1 : goal.returns-else-held-ge1
returns-else-held-ge1 c d n k = held_none d n _ _ _ _ c.if-held-ge1.false k
