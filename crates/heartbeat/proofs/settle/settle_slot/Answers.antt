-- `heartbeat::settle::settle_slot`: out of the mesh, into it, or as it was.
use Rattle.index.proofs.Kit.{◌∙◌}
use Rattle.heartbeat.proofs.SettleLaws.{settled_out, settled_stays, settled_in, settled_past}
use Rattle.heartbeat.proofs.settle.settle_slot.Goals as goal

pub punish-requires : goal.punish-requires
punish-requires c = c.requires

pub prune_slot-requires : goal.prune_slot-requires
prune_slot-requires c =
    let s = c.requires in
    record { size = c.punish.auto.table ∙ s.size; topic = s.topic; slot = s.slot }

pub graft_slot-requires : goal.graft_slot-requires
graft_slot-requires c = let s = c.requires in record { size = s.size; topic = s.topic; slot = s.slot }

pub shape_of-table-then-not-stays : goal.shape_of-table-then-not-stays
shape_of-table-then-not-stays c =
    c.prune_slot.auto.table ∙ c.punish.auto.table

pub returns-then-not-stays : goal.returns-then-not-stays
returns-then-not-stays c =
    settled_out _ _ _ _ _ _ _ _ _ _ c.if-was.true c.if-not-stays.true c.punish.ensures c.prune_slot.ensures

pub returns-else-not-stays : goal.returns-else-not-stays
returns-else-not-stays c = settled_stays _ _ _ _ _ _ _ _ c.if-was.true c.if-not-stays.false

pub shape_of-table-then-stays : goal.shape_of-table-then-stays
shape_of-table-then-stays c = c.graft_slot.auto.table

pub returns-then-stays : goal.returns-then-stays
returns-then-stays c =
    settled_in _ _ _ _ _ _ _ _ _ c.if-was.false c.if-stays.true c.graft_slot.ensures

pub returns-else-stays : goal.returns-else-stays
returns-else-stays c = settled_past _ _ _ _ _ _ _ _ c.if-was.false c.if-stays.false
