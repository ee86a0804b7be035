use Rattle.records.specs.Records.{slot_count, peer_in}
use Rattle.index.proofs.Kit.{refl, sym, ap, ◌∙◌, arith}
use Rattle.index.proofs.Index.{iter_none, iter_more, iter_done}
use Rattle.layout.specs.View.{state_of}
use Rattle.effects.specs.Effects.{reclaimable, reclaim_slot, reclaimed}
use Rattle.effects.proofs.connections.reclaim.Goals as goal

pub loop-slot-init : goal.loop-slot-init
loop-slot-init c = (omega arith, c.requires, sym (iter_none _ _), λ n. refl)

pub loop-slot-preserved : goal.loop-slot-preserved
loop-slot-preserved c =
    let a = c.args in
    let l = c.loop-slot in
    let k = c.reclaim_slot in (
      omega arith,
      k.auto.table ∙ l.invariant.1,
      iter_more (reclaim_slot a.time) (state_of a.table.now) l.slot (state_of l.table) _ l.invariant.2 k.ensures.0,
      λ n. k.ensures.1 (ap (λ w. reclaimable (peer_in (state_of w) l.slot) a.time) (l.invariant.3 n) ∙ n.each l.slot (omega arith))
          ∙ l.invariant.3 n,
    )

pub shape_of-table : goal.shape_of-table
shape_of-table c = c.loop-slot.invariant.1 ∙ sym c.requires

pub returns : goal.returns
unfolding reclaimed
returns c =
    let a = c.args in
    let l = c.loop-slot in
    (iter_done (reclaim_slot a.time) (state_of a.table.now) slot_count l.slot _ (omega arith) (omega arith) l.invariant.2, l.invariant.3)
