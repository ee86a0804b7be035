use native.Mathlib.Omega.{arith}
use mathlib.Core.Path.{sym, ap, ◌∙◌}
use Rattle.records.specs.Records.{slot_count}
use Rattle.index.specs.Index.{one}
use Rattle.index.proofs.Index.{count_none, count_more, count_done}
use Rattle.pairs.proofs.rank_by.Goals.{then-m-a, else-m-a}
use Rattle.pairs.proofs.rank_by.Goals as goal

pub loop-a-init : goal.loop-a-init
loop-a-init c = (omega arith, omega arith, sym (count_none _))

pub loop-a-preserved : goal.loop-a-preserved
loop-a-preserved c =
    let l = c.loop-a in
    let more = count_more _ l.a l.n l.invariant.2 in
    elim c.if-m-a.branch [
      | then-m-a w ↦ (let e = ap one w.if-m-a.true in (omega arith, omega arith, omega arith))
      | else-m-a w ↦ (let e = ap one w.if-m-a.false in (omega arith, omega arith, omega arith))
    ]

pub returns : goal.returns
returns c = let l = c.loop-a in l.invariant.2 ∙ count_done _ slot_count l.a (omega arith) (omega arith)
