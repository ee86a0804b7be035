-- `gossip_old::leave`: test 12, or what 01's leave answers, and with 0 a store emptied.
use Rattle.index.proofs.Flags.{yes, no}
use Rattle.index.proofs.Kit.{refl, arith, rules}
use Rattle.rules.proofs.CountLaws.{few_actions}
use Rattle.gossip_old.proofs.OldLaws.{tested, old_refused, old_passes, old_done, old_else, leave_topic, leave_fits, besides_leave}
use Rattle.gossip_old.proofs.leave.Goals as goal

pub returns-then-not-is_router : goal.returns-then-not-is_router
returns-then-not-is_router c = old_refused _ _ _ _ refl (no c.is_router.ensures c.if-not-is_router.true)

pub code-requires : goal.code-requires
code-requires c = few_actions _ _ _ _ _ _ c.leave-a.ensures

pub returns-then-number_of-ne0 : goal.returns-then-number_of-ne0
returns-then-number_of-ne0 c =
    let t = tested _ _ (yes c.is_router.ensures c.if-not-is_router.false) in
    let a = c.number_of.ensures in
    old_passes _ _ _ _ refl _ _ _ _ t (old_else _ _ _ _ _ _ _ c.leave-a.ensures _ _ a (search rules) c.code.ensures)

pub empty-requires : goal.empty-requires
empty-requires c =
    let t = tested _ _ (yes c.is_router.ensures c.if-not-is_router.false) in
    let a = c.number_of.ensures in
    let n = leave_topic _ _ _ _ _ _ _ _ c.leave-a.ensures a (search rules) in
    leave_fits _ _ _ (search rules) t (omega arith)

pub code-requires-2 : goal.code-requires-2
code-requires-2 c = few_actions _ _ _ _ _ _ c.leave-a.ensures

pub returns : goal.returns
returns c =
    let t = tested _ _ (yes c.is_router.ensures c.if-not-is_router.false) in
    let a = c.number_of.ensures in
    let u = c.empty.ensures in
    old_passes _ _ _ _ refl _ _ _ _ t
    (old_done _ _ _ _ _ _ _ c.leave-a.ensures _ _ _ a (search rules) c.code-2.ensures
    (besides_leave _ _ _ _ _ u))
