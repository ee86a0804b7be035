use Rattle.varint.proofs.+write_u64.Given as goal

abbrev pub decreases-write_u64 : goal.decreases-write_u64
decreases-write_u64 l = l.n
