-- `heartbeat::seen::view`: the sets together.
use Rattle.heartbeat.proofs.SeenLaws.{view_is}
use Rattle.heartbeat.proofs.seen.view.Goals as goal

pub members-requires : goal.members-requires
members-requires c = let p = c.requires in record { size = p.standing.size; topic = p.topic }

pub candidates-requires : goal.candidates-requires
candidates-requires c = c.requires

pub outbound-requires : goal.outbound-requires
outbound-requires c = c.requires.standing.size

pub returns : goal.returns
returns c order =
    let p = c.requires in
    view_is _ _ _ _ order _ _ _ _ p.scores c.members.ensures c.candidates.ensures c.outbound.ensures
