-- `save_load::check_edition`: each end by its case. Assumes nothing.
use mathlib.Core.Path.{sym, ◌∙◌}
use Rattle.saves.proofs.Opened.{slots_most}
use Rattle.save_load.proofs.CheckLaws.{edition_bad, edition_none, edition_fine}
use Rattle.save_load.proofs.check_edition.Goals as goal

pub returns-in_default : goal.returns-in_default
returns-in_default c p clock d = edition_bad p clock c.args.s.now _
    c.read_u64.ensures c.in_default.is

pub returns-in_default-slots_of : goal.returns-in_default-slots_of
returns-in_default-slots_of c p clock d =
    edition_none p clock c.args.s.now _
    c.read_u64.ensures _ _ c.in-Some.is _
    c.slots_of.ensures c.in_default-slots_of.is

pub check_count-requires : goal.check_count-requires
check_count-requires c = (
  c.requires,
  slots_most _ _ (sym c.slots_of.ensures ∙ c.in-Some-slots_of.is),
)

pub returns : goal.returns
returns c p clock d =
    edition_fine p clock c.args.s.now _
    c.read_u64.ensures _ _
    c.in-Some.is _ c.slots_of.ensures _
    c.in-Some-slots_of.is
    c.check_count.result
    (c.check_count.ensures p clock d)
