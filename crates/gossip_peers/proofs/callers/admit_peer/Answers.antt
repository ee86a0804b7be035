-- `gossip_peers::callers::admit_peer`: the first tests, and then the search.
use Rattle.index.proofs.Kit.{◌∙◌}
use Rattle.gossip_peers.proofs.CallerLaws.{admitted_refused, admitted_found}
use Rattle.gossip_peers.proofs.callers.admit_peer.Goals as goal

pub returns-then-refusal-ne0 : goal.returns-then-refusal-ne0
returns-then-refusal-ne0 c = search admitted_refused

pub returns : goal.returns
returns c =
    c.ok_or.ensures.value ∙ admitted_found _ _ _ _ _ _ _ c.admit-refusal.ensures c.if-refusal-ne0.false c.find_connected.ensures
