use mathlib.Core.Path.{ap, ◌∙◌}
use Rattle.gossip.specs.Notes.{has}
use Rattle.gossip.proofs.CellLaws.{has_any}
use Rattle.notes.proofs.SetLaws.{numbers_part}
use Rattle.notes.proofs.has.Goals as goal

pub returns : goal.returns
returns c =
    let a = c.args in
    c.contains.ensures.value ∙ has_any a.number _ ∙ ap (has a.number) (numbers_part a.cells.now a.at a.n c.requires)
