-- `forms::copy::fill_rows`: part by part, each as its callee ensures it.
use mathlib.Core.Path.{ap, ◌∙◌}
use Rattle.records.specs.Records.{set_clock}
use Rattle.layout.specs.View.{set_codes, set_setup, state_of}
use Rattle.layout.proofs.StateLaws.{sized_of}
use Rattle.rows.proofs.SizeLaws.{sized_of as Sized-rows}
use Rattle.forms.proofs.CopyLaws.{all_copied}
use Rattle.forms.proofs.copy.fill_rows.Goals as goal

pub returns : goal.returns
returns c =
    all_copied (state_of c.args.table.now) _ _ _ _ _ _ _ (sized_of c.args.table.now) (Sized-rows _) (Sized-rows _) (Sized-rows _)
    (c.store_clock.ensures ∙ ap (set_clock _) c.load_clock.ensures)
    c.joined_to.ensures
    (c.store_codes.ensures ∙ ap (set_codes _) c.codes-c.ensures)
    (c.store_setup.ensures ∙ ap (set_setup _) c.load_setup.ensures)
    c.peers_to.ensures
    c.topics_to.ensures
