-- `control::prune`: the gate's refusals, or what `prune_reply` leaves.
-- Assumes nothing.
use borrow.Author.Rules.{rules}
use Rattle.gate.proofs.CallLaws.{ids_topics}
use Rattle.gate.proofs.PeerGateLaws.{of_prune, peer_ends, peer_refusal, peer_quiet}
use Rattle.control.proofs.PruneLaws.{quiet_prune}
use Rattle.control.proofs.prune.Goals as goal

pub prune_reply-requires : goal.prune_reply-requires
prune_reply-requires c = record { ready = search (peer_ends, rules); topic = search peer_ends; slot = search peer_ends }

pub returns-in-Err : goal.returns-in-Err
returns-in-Err c =
    peer_refusal _ _ _ _ _ _ _ _ (of_prune _ _ _ _ _) c.time_ok.ensures (ids_topics c.args.id c.args.topic _ _ c.id_ok.ensures c.topic_ok.ensures)
    c.admit_peer.ensures _ c.in-Err.is

pub returns-in-Ok : goal.returns-in-Ok
returns-in-Ok c =
    peer_quiet _ _ _ _ _ _ _ _ (of_prune _ _ _ _ _) c.time_ok.ensures (ids_topics c.args.id c.args.topic _ _ c.id_ok.ensures c.topic_ok.ensures)
    c.admit_peer.ensures _ c.in-Ok.is _ _ (quiet_prune _ _ _ _ _) c.prune_reply.ensures
