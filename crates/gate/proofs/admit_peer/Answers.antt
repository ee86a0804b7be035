-- `gate::admit_peer`: the gate's refusal, or the slot behind it.
-- Assumes nothing.
use borrow.Author.Rules.{rules}
use Rattle.gate.specs.PeerGate.{peer_gate}
use Rattle.gate.proofs.PeerGateLaws.{behind_refused, behind_passed}
use Rattle.gate.proofs.admit_peer.Goals as goal

pub returns-in_err-admit : goal.returns-in_err-admit
unfolding peer_gate
returns-in_err-admit c = search (behind_refused, rules)

pub returns : goal.returns
returns c = search (behind_passed, rules)
