use native.Mathlib.Omega.{arith}
use Rattle.stores.proofs.ViewLaws.{length_window}
use Rattle.stores.proofs.WantLaws.{given_kept, window_none, window_more, window_done}
use Rattle.stores.proofs.wants.flag_window.Goals as goal

pub loop-k-init : goal.loop-k-init
loop-k-init c = (omega arith, window_none _ _)

pub flag_where-requires : goal.flag_where-requires
flag_where-requires c =
    let l = c.loop-k in
    let p = c.requires.1 in
    (given_kept _ _ _ _ p.0 l.invariant.1, p.1)

pub loop-k-preserved : goal.loop-k-preserved
loop-k-preserved c =
    let l = c.loop-k in (
      omega arith,
      window_more _ _ l.k _ _ _ _ (rw length_window (omega arith)) c.number.ensures l.invariant.1
          c.flag_where.ensures,
    )

pub returns : goal.returns
returns c =
    let l = c.loop-k in
    window_done _ _ l.k _ _ (rw length_window (omega arith)) l.invariant.1
