-- `peers::connect_known`: the retained record's slot, or an empty one, or 5.
-- Assumes nothing.
use mathlib.Core.Path.{◌∙◌}
use Rattle.peers.proofs.PeerLaws.{retained_below, empty_below, connect_retained, connect_empty, connect_full}
use Rattle.peers.proofs.connect_known.Goals as goal

pub connect_at-requires : goal.connect_at-requires
connect_at-requires c = (
  record {
    size = c.reclaim.auto.table ∙ c.requires.0.standing.size;
    slot = search retained_below;
  },
  c.requires.1,
)

pub returns-in-Some : goal.returns-in-Some
returns-in-Some c = search connect_retained

pub returns-in_default-lowest_empty : goal.returns-in_default-lowest_empty
returns-in_default-lowest_empty c =
    let k = c.reclaim in
    connect_full _ _ _ _ _ _ _ k.ensures.0 _
    c.find_retained.ensures c.in_default.is
    _ c.lowest_empty.ensures k.ensures.1 c.in_default-lowest_empty.is

pub connect_at-requires-2 : goal.connect_at-requires-2
connect_at-requires-2 c = (
  record {
    size = c.reclaim.auto.table
        ∙ c.requires.0.standing.size;
    slot = search empty_below;
  },
  c.requires.1,
)

pub returns : goal.returns
returns c = search connect_empty
