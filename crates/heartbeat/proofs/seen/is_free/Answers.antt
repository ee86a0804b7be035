-- `heartbeat::seen::is_free`: the rules' two tests, of the numbers loaded.
use Rattle.heartbeat.proofs.SeenLaws.{free_is}
use Rattle.heartbeat.proofs.seen.is_free.Goals as goal

pub load_end-requires : goal.load_end-requires
load_end-requires c = let s = c.requires in (s.standing.size, (s.slot, s.topic))

pub returns : goal.returns
returns c =
    let s = c.requires in
    free_is _ _ _ _ _ _ _ s.standing.router s.slot s.score c.load_end.ensures c.past_slack-free.ensures
