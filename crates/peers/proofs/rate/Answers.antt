-- `peers::rate`: the gate's refusals, or the record's P5 and the clock.
-- Assumes nothing.
use borrow.Author.Rules.{rules}
use Rattle.gate.proofs.PeerGateLaws.{of_rate, peer_ends, peer_refusal, peer_quiet}
use Rattle.peers.proofs.PeerLaws.{p5_range, quiet_rate, tested_p5, rated_done, rated_fits}
use Rattle.peers.proofs.rate.Goals as goal

pub rate_slot-requires : goal.rate_slot-requires
rate_slot-requires c = search (peer_ends, tested_p5, rated_fits, rules)

pub returns-in-Err : goal.returns-in-Err
returns-in-Err c =
    peer_refusal _ _ _ _ _ _ _ _ (of_rate _ _ _ _) c.time_ok.ensures (p5_range _ _ _ c.args.id c.ranges.p5 c.id_ok.ensures c.p5_ok.ensures)
    c.admit_peer.ensures _ c.in-Err.is

pub returns-in-Ok : goal.returns-in-Ok
returns-in-Ok c =
    peer_quiet _ _ _ _ _ _ _ _ (of_rate _ _ _ _) c.time_ok.ensures (p5_range _ _ _ c.args.id c.ranges.p5 c.id_ok.ensures c.p5_ok.ensures)
    c.admit_peer.ensures _ c.in-Ok.is _ _ (quiet_rate _ _ _ _)
    (rated_done _ _ _ _ _ _ c.finish.ensures _ _ c.ranges.p5 c.code_of.ensures c.rate_slot.ensures)
