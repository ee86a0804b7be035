-- `leaving::leave_slot`: nothing at a slot that is no member, else its counter, its PRUNE and its action.
use native.Mathlib.Omega.{arith}
use Rattle.index.proofs.Flags.{failed, passed}
use Rattle.leaving.proofs.LeaveLaws.{grown_id, turned_past, turned_out}
use Rattle.leaving.proofs.leave_slot.Goals as goal

pub returns-then-not-is_member : goal.returns-then-not-is_member
returns-then-not-is_member c = search (turned_past, failed)

pub put_prune-requires : goal.put_prune-requires
put_prune-requires c =
    let i = grown_id _ _ _ _ _ _ c.punish.ensures c.load_peer-p.ensures.0 in
    record { room = c.requires.room; id = omega (arith, i, c.requires.turn.id); seconds = c.requires.seconds }

pub returns : goal.returns
returns c = search (turned_out, passed)
