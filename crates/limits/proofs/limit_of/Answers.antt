-- `limits::limit_of` meets its contract. Assumes nothing.
use Rattle.index.proofs.Kit.{ap, ℕ}
use lib.ListN.{get_or}
use lib.IntN.{pos}
use Rattle.limits.specs.Limits.{limits, limit_at}
use Rattle.limits.proofs.limit_of.Goals as goal

pub returns : goal.returns
unfolding limit_at limits
returns c = ap (λ (f : ℕ). get_or limits f (record { low = pos 0; high = pos 0 })) c.field_of-f.ensures.0
