use Rattle.layout.proofs.BitLaws.{with_put, with_drop}
use Rattle.layout.proofs.with_bit.Goals as goal

pub returns-then-v-eq1 : goal.returns-then-v-eq1
returns-then-v-eq1 c =
    with_put _ _ _ _ c.single.ensures c.if-v-eq1.true

pub returns-else-v-eq1 : goal.returns-else-v-eq1
returns-else-v-eq1 c =
    with_drop _ _ _ _ c.single-else-v-eq1.ensures c.if-v-eq1.false
