-- `peer_score::buckets::bucket`: the product of two numbers below 2^32. Assumes nothing.
use native.Mathlib.Omega.{arith}
use mathlib.Core.Path.{refl}
use Rattle.peer_score.specs.Buckets.{bucket_of}
use Rattle.peer_score.proofs.buckets.bucket.Goals as goal

pub returns : goal.returns
unfolding bucket_of
returns c = (refl, omega arith)
