-- `peers::connect_from`: 6, 4, or what `connect_known` leaves.
-- Assumes nothing.
use Rattle.peers.proofs.PeerLaws.{connect_unknown, connect_already, connect_new, version_fits}
use Rattle.peers.proofs.connect_from.Goals as goal

pub returns-in_default : goal.returns-in_default
returns-in_default c = connect_unknown _ _ _ _ _ _ _ c.version_of.ensures c.in_default.is

pub returns-in-Some-find_connected : goal.returns-in-Some-find_connected
returns-in-Some-find_connected c =
    connect_already _ _ _ _ _ _ _ c.version_of.ensures _
    c.in-Some.is _ (search) _ c.in-Some-find_connected.is

pub connect_known-requires : goal.connect_known-requires
connect_known-requires c = (
  c.requires.0,
  version_fits _ _ _ _ c.version_of.ensures
      c.in-Some.is c.requires.2,
)

pub returns : goal.returns
returns c =
    connect_new _ _ _ _ _ _ _ c.version_of.ensures _ c.in-Some.is _ (search) _ _ _
    c.in_default-find_connected.is c.groups_of.ensures c.connect_known.ensures
