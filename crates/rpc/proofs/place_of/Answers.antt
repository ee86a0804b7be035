-- `rpc::place_of` meets its contract. Assumes nothing.
use Rattle.rpc.proofs.KindLaws.{place_first, place_second, place_third, place_fourth}
use Rattle.rpc.proofs.place_of.Goals as goal

pub returns-then-kind-eq-SUBSCRIPTION : goal.returns-then-kind-eq-SUBSCRIPTION
returns-then-kind-eq-SUBSCRIPTION c = place_first _ _ c.if-kind-eq-SUBSCRIPTION.true

pub returns-then-kind-eq-GRAFT : goal.returns-then-kind-eq-GRAFT
returns-then-kind-eq-GRAFT c = place_second _ _ c.if-kind-eq-SUBSCRIPTION.false c.if-kind-eq-GRAFT.true

pub returns-then-kind-eq-PRUNE : goal.returns-then-kind-eq-PRUNE
returns-then-kind-eq-PRUNE c = place_third _ _ c.if-kind-eq-SUBSCRIPTION.false c.if-kind-eq-GRAFT.false c.if-kind-eq-PRUNE.true

pub returns : goal.returns
returns c = place_fourth _ _ c.if-kind-eq-SUBSCRIPTION.false c.if-kind-eq-GRAFT.false c.if-kind-eq-PRUNE.false
