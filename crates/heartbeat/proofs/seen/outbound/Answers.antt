-- `heartbeat::seen::outbound`: the words as they stand in the table.
use Rattle.index.proofs.Kit.{ℕ, ap}
use lib.Dec.{eqb}
use Rattle.heartbeat.proofs.SeenLaws.{words_are}
use Rattle.heartbeat.proofs.seen.outbound.Goals as goal

pub returns : goal.returns
returns c = words_are _ _ c.load_outbound.ensures.0 (λ s h. ap (λ (n : ℕ). eqb n 1) (c.load_outbound.ensures.1 s h))
