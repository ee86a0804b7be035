use borrow.Author.Rules.{rules}
use Rattle.index.proofs.Kit.{refl, ◌∙◌}
use Rattle.words.proofs.SlotWalk.{begun, took, ended}
use Rattle.gossip_table.specs.View.{gossip_of}
use Rattle.gossip_table.proofs.StoreParts.{gossip_sized}
use Rattle.gossip_old.proofs.ClearLaws.{cleared_none, cleared_next, cleared_more, cleared_all}
use Rattle.gossip_old.proofs.clear_slots.Goals as goal

pub loop-slot-init : goal.loop-slot-init
loop-slot-init c =
    let g = c.args.gossip.now in
    let b = begun _ _ _ c.into_iter-slot-iterator.ensures.into_iter_gives c.of-slot-items.ensures.set_is c.of-slot-items.ensures.from_is in
    (b.0, refl, rw b.1 (cleared_none _ (gossip_of g) (gossip_sized g).notes))

pub clear-requires : goal.clear-requires
clear-requires c =
    let l = c.loop-slot in
    let t = took _ _ _ _ _ l.invariant.0 c.in-Some.is c.next.ensures.steps in
    record { size = l.invariant.1 ∙ c.requires; slot = t.slot_lt }

pub loop-slot-preserved : goal.loop-slot-preserved
loop-slot-preserved c =
    let l = c.loop-slot in
    let t = took _ _ _ _ _ l.invariant.0 c.in-Some.is c.next.ensures.steps in (
      t.set_is,
      search rules ∙ l.invariant.1,
      rw t.from_is
          (cleared_more _ _ _ (gossip_of l.gossip) t.slot_lt (t.next.here t.slot_lt) (cleared_next _ _ _ _ _ t.next l.invariant.2) _
          (search rules)),
    )

pub shape_of-gossip : goal.shape_of-gossip
shape_of-gossip c = c.loop-slot.invariant.1

pub returns : goal.returns
returns c f e =
    let l = c.loop-slot in
    let n = ended _ _ _ _ l.invariant.0 c.in-None.is c.next.ensures.steps in
    cleared_all _ _ _ f e (cleared_next _ _ _ _ _ n l.invariant.2)
