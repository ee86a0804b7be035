-- `peers::disconnect`: the gate's refusals, or the record retained and the clock.
-- Assumes nothing.
use native.Mathlib.Omega.{arith}
use borrow.Author.Rules.{rules}
use Rattle.gate.proofs.StandingLaws.{sizes}
use Rattle.gate.proofs.PeerGateLaws.{of_disconnect, peer_ends, peer_ready, peer_refusal, peer_quiet}
use Rattle.peers.proofs.PeerLaws.{quiet_disconnect, departed_done}
use Rattle.peers.proofs.disconnect.Goals as goal

pub end_after-end-requires : goal.end_after-end-requires
end_after-end-requires c =
    let ready = peer_ready _ _ _ _ _ _ _ c.admit_peer.ensures _ c.in-Ok.is c.time_ok.ensures (search rules) in
    let most = sizes _ ready.standing.router in
    record { latest = ready.latest; seconds = omega (arith, c.load_magnitude.ensures) }

pub retain_slot-requires : goal.retain_slot-requires
retain_slot-requires c = search (peer_ends, rules)

pub returns-in-Err : goal.returns-in-Err
returns-in-Err c = peer_refusal _ _ _ _ _ _ _ _ (of_disconnect _ _ _) c.time_ok.ensures c.id_ok.ensures c.admit_peer.ensures _ c.in-Err.is

pub returns-in-Ok : goal.returns-in-Ok
returns-in-Ok c =
    peer_quiet _ _ _ _ _ _ _ _ (of_disconnect _ _ _) c.time_ok.ensures c.id_ok.ensures c.admit_peer.ensures _ c.in-Ok.is _ _
    (quiet_disconnect _ _ _)
    (departed_done _ _ _ _ _ _ c.finish.ensures _ _ c.load_magnitude.ensures c.end_after-end.ensures.0 c.retain_slot.ensures)
