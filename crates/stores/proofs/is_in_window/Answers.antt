use mathlib.Core.Path.{ap, ◌∙◌}
use Rattle.gossip.specs.Notes.{has}
use Rattle.stores.proofs.ViewLaws.{window_part}
use Rattle.stores.proofs.is_in_window.Goals as goal

pub returns : goal.returns
returns c =
    c.is_in.ensures
    ∙ ap (has _) (window_part c.requires c.start-at.ensures c.size.ensures.0)
