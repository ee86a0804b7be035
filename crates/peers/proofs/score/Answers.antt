-- `peers::score`: the gate's refusals, or the parts as they are computed, and the clock.
-- Assumes nothing.
use mathlib.Core.Path.{refl, ap}
use borrow.Author.Rules.{rules}
use Rattle.rules.specs.declared.Answer.TheVariants.{Scored}
use Rattle.rules.proofs.PromiseLaws.{leaves_moved}
use Rattle.gate.proofs.PeerGateLaws.{of_score, peer_ends, peer_refusal, peer_quiet}
use Rattle.peers.proofs.PeerLaws.{quiet_score}
use Rattle.peers.proofs.score.Goals as goal

pub load_peer-peer-requires : goal.load_peer-peer-requires
load_peer-peer-requires c = search (peer_ends, rules)

pub why_of-why-requires : goal.why_of-why-requires
why_of-why-requires c = search (peer_ends, rules)

pub returns-in-Err : goal.returns-in-Err
returns-in-Err c = peer_refusal _ _ _ _ _ _ _ _ (of_score _ _ _) c.time_ok.ensures c.id_ok.ensures c.admit_peer.ensures _ c.in-Err.is

pub returns-in-Ok : goal.returns-in-Ok
returns-in-Ok c =
    peer_quiet _ _ _ _ _ _ _ _ (of_score _ _ _) c.time_ok.ensures c.id_ok.ensures c.admit_peer.ensures _ c.in-Ok.is _ _
    (quiet_score _ _ _) (leaves_moved _ _ _ _ (ap Scored c.why_of-why.ensures) refl c.store_clock.ensures.0)
