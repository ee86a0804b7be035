-- `deliveries::decay_slot`: the topics and then P7 of a connected peer; nothing of another.
-- Assumes nothing.
use mathlib.Core.Path.{◌∙◌}
use native.Mathlib.Omega.{arith}
use borrow.Author.Tests.{eq-eqb, ne_eqb}
use Rattle.deliveries.proofs.DecayLaws.{at_topic, slot_connected, slot_other}
use Rattle.deliveries.proofs.decay_slot.Goals as goal

pub decay_p7-requires : goal.decay_p7-requires
decay_p7-requires c =
    let k = c.decay_topics in
    let pre = c.requires in
    record {
      size = k.auto.table ∙ pre.size;
      decays = at_topic _ _ _ _ 8 pre.decays pre.slot (omega arith) k.ensures;
      slot = pre.slot;
    }

pub returns-then-load_status-eq1 : goal.returns-then-load_status-eq1
returns-then-load_status-eq1 c =
    slot_connected _ _ _ _ c.load_status.ensures _ _
    (eq-eqb _ _ c.if-load_status-eq1.true)
    c.decay_topics.ensures c.decay_p7.ensures

pub returns-else-load_status-eq1 : goal.returns-else-load_status-eq1
returns-else-load_status-eq1 c = slot_other _ _ _ _ c.load_status.ensures (ne_eqb _ _ c.if-load_status-eq1.false)
