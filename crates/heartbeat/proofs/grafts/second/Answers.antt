-- `heartbeat::grafts::second`: enough members, or the candidates that are grafted.
use Rattle.heartbeat.proofs.GraftLaws.{scored_same, second_none, second_some}
use Rattle.heartbeat.proofs.grafts.second.Goals as goal

pub degrees-t-requires : goal.degrees-t-requires
degrees-t-requires c = c.requires.taking.standing

pub returns-then-t-n : goal.returns-then-t-n
returns-then-t-n c =
    let d = c.degrees-t.ensures in
    (scored_same _ _ _, λ ask. second_none _ _ _ ask _ _ d _ _ c.size-n.ensures c.if-t-n.true)

pub eligible-p-requires : goal.eligible-p-requires
eligible-p-requires c = let p = c.requires in
    record { standing = p.taking.standing; topic = p.topic }

pub graft-requires : goal.graft-requires
graft-requires c = c.requires

pub shape_of-heights : goal.shape_of-heights
shape_of-heights c = c.graft.ensures.scores.size

pub returns : goal.returns
returns c =
    let d = c.degrees-t.ensures in
    let g = c.graft.ensures in (
      g.scores,
      λ ask.
          second_some _ _ _ ask _ _ d _ _ c.size-n.ensures _ _ _ _ _
          c.if-t-n.false c.saturating_sub-k.ensures
          c.eligible-p.ensures g,
    )
