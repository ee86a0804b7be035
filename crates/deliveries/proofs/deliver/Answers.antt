-- `deliveries::deliver`: the gate's refusals, or what `deliver_reply` leaves.
-- Assumes nothing.
use borrow.Author.Rules.{rules}
use Rattle.gate.proofs.PeerGateLaws.{of_deliver, peer_ends, peer_refusal, peer_quiet}
use Rattle.deliveries.proofs.DeliverLaws.{quiet_deliver, deliver_range, deliver_topic}
use Rattle.deliveries.proofs.deliver.Goals as goal

pub deliver_reply-requires : goal.deliver_reply-requires
deliver_reply-requires c = record { ready = search (peer_ends, rules); topic = search deliver_topic; slot = search peer_ends }

pub returns-in-Err : goal.returns-in-Err
returns-in-Err c =
    peer_refusal _ _ _ _ _ _ _ _ (of_deliver _ _ _ _ _) c.time_ok.ensures
    (deliver_range c.args.id c.args.topic c.args.kind _ _ c.id_ok.ensures c.topic_ok.ensures) c.admit_peer.ensures _ c.in-Err.is

pub returns-in-Ok : goal.returns-in-Ok
returns-in-Ok c =
    peer_quiet _ _ _ _ _ _ _ _ (of_deliver _ _ _ _ _) c.time_ok.ensures
    (deliver_range c.args.id c.args.topic c.args.kind _ _ c.id_ok.ensures c.topic_ok.ensures) c.admit_peer.ensures _ c.in-Ok.is _ _
    (quiet_deliver _ _ _ _ _) c.deliver_reply.ensures
