-- `heartbeat::grafts::fifth`: the four ways out are the rule's: not asked, fewer than two members, the median not below the threshold, and
-- the grafts. The median asks for the members' scores alone.
use native.Mathlib.Omega.{arith}
use borrow.Author.Tests.{ne_eqb, eq-eqb}
use mathlib.Core.Path.{refl}
use Rattle.heartbeat.proofs.GraftLaws.{scored_same, fifth_unasked, fifth_few, fifth_high, fifth_low}
use Rattle.heartbeat.proofs.grafts.fifth.Goals as goal

pub returns-then-not-asked : goal.returns-then-not-asked
returns-then-not-asked c = (scored_same _ _ _, fifth_unasked _ _ _ _ _ _ (ne_eqb _ _ c.if-not-asked.true))

pub returns-then-n-lt2 : goal.returns-then-n-lt2
returns-then-n-lt2 c = (scored_same _ _ _, fifth_few _ _ _ _ _ _ refl _ _ c.size-n.ensures c.if-n-lt2.true)

pub middle-median-requires : goal.middle-median-requires
middle-median-requires c =
    let p = c.requires in
    record { scores_len = p.grafting.taking.size; k_bound = omega (arith, c.size-n.ensures, c.if-n-lt2.false) }

pub degrees-t-requires : goal.degrees-t-requires
degrees-t-requires c = c.requires.grafting.taking.standing

pub shape_of-heights-then-t-median : goal.shape_of-heights-then-t-median
shape_of-heights-then-t-median c = refl

pub returns-then-t-median : goal.returns-then-t-median
returns-then-t-median c =
    let p = c.requires in (
      scored_same _ _ _,
      fifth_high _ _ _ _ _ _ c.degrees-t.ensures _ _ c.size-n.ensures _
          p.grafting.taking.size p.heights_on _ c.middle-median.ensures
          c.if-t-median.true,
    )

pub eligible-p-requires : goal.eligible-p-requires
eligible-p-requires c = let p = c.requires.grafting in
    record { standing = p.taking.standing; topic = p.topic }

pub overflow_add-median : goal.overflow_add-median
overflow_add-median c = omega (arith, c.if-t-median.false)

pub graft-requires : goal.graft-requires
graft-requires c = c.requires.grafting

pub shape_of-heights : goal.shape_of-heights
shape_of-heights c = c.graft.ensures.scores.size

pub returns : goal.returns
returns c =
    let p = c.requires in
    let g = c.graft.ensures in (
      g.scores,
      fifth_low _ _ _ _ _ _ c.degrees-t.ensures _ _
          c.size-n.ensures _ p.grafting.taking.size
          p.heights_on _ c.middle-median.ensures
          _ _ _ _ (eq-eqb _ _ c.if-not-asked.false)
          c.if-n-lt2.false
          c.if-t-median.false c.eligible-p.ensures g,
    )
