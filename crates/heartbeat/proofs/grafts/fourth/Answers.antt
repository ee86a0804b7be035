-- `heartbeat::grafts::fourth`: the outbound candidates that are grafted, as many as are missing.
use Rattle.heartbeat.proofs.GraftLaws.{fourth_is}
use Rattle.heartbeat.proofs.grafts.fourth.Goals as goal

pub degrees-t-requires : goal.degrees-t-requires
degrees-t-requires c = c.requires.taking.standing

pub outbound-outs-requires : goal.outbound-outs-requires
outbound-outs-requires c = c.requires.taking.standing.size

pub eligible-requires : goal.eligible-requires
eligible-requires c = let p = c.requires in
    record { standing = p.taking.standing; topic = p.topic }

pub graft-requires : goal.graft-requires
graft-requires c = c.requires

pub shape_of-heights : goal.shape_of-heights
shape_of-heights c = c.graft.ensures.scores.size

pub returns : goal.returns
returns c =
    let g = c.graft.ensures in (
      g.scores,
      λ ask.
          fourth_is _ _ _ ask _ _ c.degrees-t.ensures _ _
          _ _ _ _ _ _ _ _ c.eligible.ensures
          c.outbound-outs.ensures
          c.both-p.ensures
          c.both.ensures
          c.size.ensures
          c.saturating_sub-k.ensures g,
    )
