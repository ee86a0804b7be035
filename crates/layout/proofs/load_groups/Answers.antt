-- `layout::load_groups`: four columns in use.
use Rattle.layout.proofs.ReadLaws.{groups_load}
use Rattle.layout.proofs.load_groups.Goals as goal

pub returns : goal.returns
returns c =
    groups_load c.args.cells.now c.args.slot c.requires.1 _ _ _ _ c.live.ensures
    c.live-2.ensures
    c.live-3.ensures c.live-4.ensures
