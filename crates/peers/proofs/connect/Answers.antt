-- `peers::connect`: the gate's refusals, or what `connect_from` leaves.
-- Assumes nothing.
use borrow.Author.Rules.{rules}
use Rattle.rules.specs.Step.{effect}
use Rattle.gate.proofs.CallLaws.{call_ends, gate_ready}
use Rattle.peers.proofs.GroupLaws.{gate_groups}
use Rattle.peers.proofs.PeerLaws.{connect_range, quiet_connect, tested_flags}
use Rattle.peers.proofs.connect.Goals as goal

pub connect_from-requires : goal.connect_from-requires
connect_from-requires c =
    let told = c.in-Ok.is in (
      gate_ready _ _ _ _ _ _ c.admit.ensures told c.time_ok.ensures (search rules),
      gate_groups _ c.time_ok.result c.id_ok.result c.groups_ok.result _ _ _ _ c.admit.ensures told
          _ c.groups_ok.ensures,
      tested_flags _ c.time_ok.result c.id_ok.result c.groups_ok.result _ _ _ _ c.admit.ensures
          told,
    )

pub returns-in-Err : goal.returns-in-Err
returns-in-Err c = search (call_ends, connect_range)

pub returns-in-Ok : goal.returns-in-Ok
unfolding effect
returns-in-Ok c = search (call_ends, connect_range, quiet_connect)
