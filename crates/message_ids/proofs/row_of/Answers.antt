use Rattle.index.proofs.Kit.{arith}
use Rattle.message_ids.proofs.TableLaws.{good_ids}
use Rattle.message_ids.proofs.FindLaws.{halved_none, halved_up, halved_down, halved_found, halved_all}
use Rattle.message_ids.proofs.row_of.Goals as goal

pub loop-low-init : goal.loop-low-init
loop-low-init c = halved_none _ _ _ _ _

pub compare_row-requires : goal.compare_row-requires
compare_row-requires c =
    let q = c.requires in
    let o = c.loop-low.invariant.high_low in
    let g = good_ids _ _ q.0 in
    (g.long, (omega arith, ((g.each _ (omega arith)).short, q.1)))

pub returns-in-Equal : goal.returns-in-Equal
returns-in-Equal c =
    let g = good_ids _ _ c.requires.0 in
    let r = c.compare_row.ensures in
    halved_found _ _ _ _ _ g _ _ _ c.loop-low.invariant (omega arith) (omega arith) _ r c.in-Equal.is

pub loop-low-preserved-in-Less : goal.loop-low-preserved-in-Less
loop-low-preserved-in-Less c =
    let g = good_ids _ _ c.requires.0 in
    let r = c.compare_row.ensures in
    halved_up _ _ _ _ _ g _ _ _ c.loop-low.invariant (omega arith) (omega arith) _ r c.in-Less.is

pub loop-low-preserved : goal.loop-low-preserved
loop-low-preserved c =
    let g = good_ids _ _ c.requires.0 in
    let r = c.compare_row.ensures in
    halved_down _ _ _ _ _ g _ _ _ c.loop-low.invariant (omega arith) (omega arith) _ r c.in-Greater.is

pub returns : goal.returns
returns c = halved_all _ _ _ _ _ (good_ids _ _ c.requires.0) _ _ c.loop-low.invariant c.loop-low-test.false
