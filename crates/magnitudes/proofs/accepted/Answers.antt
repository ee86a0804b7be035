use mathlib.Core.Path.{ap, ◌∙◌}
use Rattle.records.specs.declared.Setup.{Setup}
use Rattle.params.specs.Editions.{edition_of, known}
use Rattle.magnitudes.proofs.SizeLaws.{never, accepted_in_lem}
use Rattle.magnitudes.proofs.accepted.Goals as goal

pub returns-in-Ok : goal.returns-in-Ok
returns-in-Ok c e =
    accepted_in_lem _ _ _ _
    (c.try_from.ensures ∙ ap (λ (u : Setup). edition_of u.edition) c.load_setup-setup.ensures)
    (ap known c.in-Ok.is)
    (c.accepted_by.ensures e)

pub returns-in-Err : goal.returns-in-Err
returns-in-Err c e = never e
