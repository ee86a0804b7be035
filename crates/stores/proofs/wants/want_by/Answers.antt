use native.Mathlib.Omega.{arith}
use Rattle.stores.proofs.WantLaws.{given_first, given_kept, given_has, listed_none, listed_length, next_most, want_next, want_done}
use Rattle.stores.proofs.wants.want_by.Goals as goal

pub sort_given-requires : goal.sort_given-requires
sort_given-requires c = let p = c.requires.1 in (p.0, p.1.0)

pub flag_stored-requires : goal.flag_stored-requires
flag_stored-requires c =
    let p = c.requires in
    (p.0, given_first _ _ c.sort_given.ensures p.1.0)

pub loop-n-init : goal.loop-n-init
loop-n-init c = (omega arith, omega arith, listed_none _ _ _ _ c.flag_stored.ensures)

pub next_want-size-requires : goal.next_want-size-requires
next_want-size-requires c =
    let l = c.loop-n in
    let p = c.requires.1 in
    let s = c.sort_given.ensures in
    let t = c.loop-n-test.true in
    let i = l.invariant.1 in
    let m = p.1.1 in
    let n = p.0 in
    let e = listed_length _ _ _ _ _ _ _ l.invariant.2 in (
      given_kept _ _ _ _ (given_first _ _ s p.0) l.invariant.2.flags,
      (given_has _ _ s l.n-index (omega arith), omega arith),
    )

pub loop-n-preserved : goal.loop-n-preserved
loop-n-preserved c =
    let l = c.loop-n in
    let s = c.sort_given.ensures in
    let k = c.next_want-size.ensures in
    let t = c.loop-n-test.true in
    let m = next_most _ _ _ _ _ _ _ _ k in
    (omega arith, omega arith, want_next _ _ s _ _ _ _ _ _ _ _ l.n-index (omega arith) l.invariant.2 k)

pub shape_of-rising : goal.shape_of-rising
shape_of-rising c = c.sort_given.auto.rising

pub shape_of-list : goal.shape_of-list
shape_of-list c = listed_length _ _ _ _ _ _ _ c.loop-n.invariant.2

pub returns : goal.returns
returns c =
    let l = c.loop-n in
    let s = c.sort_given.ensures in
    want_done _ _ s _ _ _ _ _ l.n-index (omega arith) l.invariant.2
