-- `heartbeat::tell::seconds_of`: by the kind and the peer's version.
use Rattle.layout.specs.View.{state_of}
use Rattle.heartbeat.specs.Tell.{told_by}
use Rattle.heartbeat.proofs.TellLaws.{seconds_graft, seconds_none, seconds_some}
use Rattle.heartbeat.proofs.tell.seconds_of.Goals as goal

pub returns-then-kind-ne-PRUNE : goal.returns-then-kind-ne-PRUNE
returns-then-kind-ne-PRUNE c = let a = c.args in
    seconds_graft a.kind (told_by (state_of a.table.now) a.seconds) a.slot c.if-kind-ne-PRUNE.true

pub load_peer-p-requires : goal.load_peer-p-requires
load_peer-p-requires c = c.requires

pub returns-then-p-eq0 : goal.returns-then-p-eq0
returns-then-p-eq0 c =
    let s = c.requires in
    seconds_none _ _ _ _ s.1 c.if-kind-ne-PRUNE.false _ c.load_peer-p.ensures.0 c.if-p-eq0.true

pub returns-else-p-eq0 : goal.returns-else-p-eq0
returns-else-p-eq0 c =
    let s = c.requires in
    seconds_some _ _ _ _ s.1 c.if-kind-ne-PRUNE.false _ c.load_peer-p.ensures.0 c.if-p-eq0.false
