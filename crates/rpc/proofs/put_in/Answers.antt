-- `rpc::put_in` meets its contract: one field is an entry, a message with entries of its own, an id, or skipped. Assumes nothing.
use Rattle.index.proofs.Kit.{arith}
use Rattle.rpc.proofs.CheckLaws.{take_below}
use Rattle.rpc.proofs.KindLaws.{place_below}
use Rattle.rpc.proofs.ListLaws.{adds_entry, adds_inner, adds_id, adds_quiet}
use Rattle.rpc.proofs.put_in.Goals as goal

pub put_one-requires : goal.put_one-requires
put_one-requires g c =
    let q = c.requires.within in
    (c.args.t.now.eight, (take_below _ _ _ q.1.0 c.requires.part, place_below _ _ _ _ c.place_of.ensures (omega arith)))

pub put_id-requires : goal.put_id-requires
put_id-requires g c =
    let q = c.requires.within in
    (q.0, (omega (arith, q.1.0, c.requires.part), place_below _ _ _ _ c.place_of-in-Id.ensures (omega arith)))

pub returns-in-Entry : goal.returns-in-Entry
returns-in-Entry g c =
    adds_entry _ _ _ _ _ _ _ _ (rw c.KIND.ensures at c.role_of.ensures) _ _ _ _ _ c.in-Entry.is c.place_of.ensures (c.put_one.ensures _ _)
    c.one_more.ensures

pub returns-in-Inner : goal.returns-in-Inner
returns-in-Inner g c =
    adds_inner _ _ _ _ _ _ _ _ (rw c.KIND.ensures at c.role_of.ensures) _ _ _ _ c.in-Inner.is c.requires.within.1.0 c.put_inner.ensures

pub returns-in-Id : goal.returns-in-Id
returns-in-Id g c =
    adds_id _ _ _ _ _ _ _ _ (rw c.KIND.ensures at c.role_of.ensures) _ _ _ _ c.in-Id.is c.place_of-in-Id.ensures (c.put_id.ensures _)
    c.one_more-in-Id.ensures

pub returns-in-Skipped : goal.returns-in-Skipped
returns-in-Skipped g c = adds_quiet _ _ _ _ _ _ _ _ (rw c.KIND.ensures at c.role_of.ensures) _ c.in-Skipped.is
