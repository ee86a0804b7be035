-- `gossip_old::connect`: test 12, or what 01's connect answers, and with 0 the notes of the reclaimed records emptied.
use Rattle.index.proofs.Flags.{yes, no}
use Rattle.index.proofs.Kit.{refl, ◌∙◌, rules}
use Rattle.rules.proofs.CountLaws.{few_actions}
use Rattle.gossip_old.proofs.OldLaws.{tested, old_refused, old_passes, old_done, old_else, besides_connect}
use Rattle.gossip_old.proofs.connect.Goals as goal

pub returns-then-not-is_router : goal.returns-then-not-is_router
returns-then-not-is_router c = old_refused _ _ _ _ refl (no c.is_router.ensures c.if-not-is_router.true)

pub code-requires : goal.code-requires
code-requires c = few_actions _ _ _ _ _ _ c.connect-a.ensures

pub returns-then-number_of-ne0 : goal.returns-then-number_of-ne0
returns-then-number_of-ne0 c =
    let t = tested _ _ (yes c.is_router.ensures c.if-not-is_router.false) in
    let a = c.number_of.ensures in
    old_passes _ _ _ _ refl _ _ _ _ t (old_else _ _ _ _ _ _ _ c.connect-a.ensures _ _ a (search rules) c.code.ensures)

pub code-requires-2 : goal.code-requires-2
code-requires-2 c = few_actions _ _ _ _ _ _ c.connect-a.ensures

pub returns : goal.returns
returns c =
    let t = tested _ _ (yes c.is_router.ensures c.if-not-is_router.false) in
    let a = c.number_of.ensures in
    let set = c.reclaimed_slots-set.ensures in
    old_passes _ _ _ _ refl _ _ _ _ t
    (old_done _ _ _ _ _ _ _ c.connect-a.ensures _ _ _ a (search rules) c.code-2.ensures
    (c.clear_slots.ensures _ set ∙ besides_connect _ _ _ _ _ _ _))
