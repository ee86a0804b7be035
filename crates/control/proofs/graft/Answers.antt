-- `control::graft`: the gate's refusals, or what `graft_reply` gives.
-- Assumes nothing.
use borrow.Author.Rules.{rules}
use Rattle.gate.proofs.CallLaws.{ids_topics}
use Rattle.gate.proofs.PeerGateLaws.{of_graft, peer_ends, peer_refusal, peer_gives}
use Rattle.control.proofs.graft.Goals as goal

pub graft_reply-requires : goal.graft_reply-requires
graft_reply-requires c =
    record { ready = search (peer_ends, rules); topic = search peer_ends; slot = search peer_ends; room = search peer_ends }

pub returns-in-Err : goal.returns-in-Err
returns-in-Err c =
    peer_refusal _ _ _ _ _ _ _ _ (of_graft _ _ _ _) c.time_ok.ensures (ids_topics c.args.id c.args.topic _ _ c.id_ok.ensures c.topic_ok.ensures)
    c.admit_peer.ensures _ c.in-Err.is

pub returns-in-Ok : goal.returns-in-Ok
returns-in-Ok c =
    peer_gives _ _ _ _ _ _ _ _ (of_graft _ _ _ _) c.time_ok.ensures (ids_topics c.args.id c.args.topic _ _ c.id_ok.ensures c.topic_ok.ensures)
    c.admit_peer.ensures _ c.in-Ok.is _ _ _ c.graft_reply.ensures
