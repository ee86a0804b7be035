use native.Mathlib.Omega.{arith}
use Rattle.score.proofs.SlotLaws.{sharing_none, sharing_more}
use Rattle.peer_score.proofs.SharingLaws.{sharing_rest}
use Rattle.peer_score.proofs.sharing_of.Goals as goal

pub loop-slot-init : goal.loop-slot-init
loop-slot-init c = (omega arith, (omega arith, sharing_none _ _))

pub shares-n-requires : goal.shares-n-requires
shares-n-requires c =
    let b = c.records_end-end.ensures.0 in
    record { size = c.requires; slot = omega arith }

pub overflow_add-n : goal.overflow_add-n
overflow_add-n c = let b = c.records_end-end.ensures.0 in let d = c.shares-n.ensures.1 in omega arith

pub loop-slot-preserved : goal.loop-slot-preserved
loop-slot-preserved c =
    let d = c.shares-n.ensures.1 in
    (omega arith, (omega arith, sharing_more _ _ _ _ _ c.loop-slot.invariant.1.1 c.shares-n.ensures.0))

pub returns : goal.returns
returns c =
    let l = c.loop-slot in
    let r = c.records_end-end.ensures in
    sharing_rest _ _ _ _ _ r.0 r.1 l.invariant.0 c.loop-slot-test.false l.invariant.1.1
