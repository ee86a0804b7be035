use Rattle.index.proofs.Flags.{no}
use Rattle.stores.proofs.WantLaws.{flags_miss}
use Rattle.stores.proofs.wants.flag_where.Goals as goal

pub returns-then-not-is_marked : goal.returns-then-not-is_marked
returns-then-not-is_marked c =
    flags_miss _ _ _ _ _ c.requires.1 c.bucket.ensures.0 (no c.is_marked.ensures c.if-not-is_marked.true)
