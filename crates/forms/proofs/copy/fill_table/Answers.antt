-- `forms::copy::fill_table`: part by part, each as its callee ensures it.
use mathlib.Core.Path.{ap, ◌∙◌}
use Rattle.records.specs.Records.{set_clock}
use Rattle.layout.specs.View.{set_codes, set_setup}
use Rattle.layout.proofs.StateLaws.{sized_of}
use Rattle.rows.specs.View.{state_of_rows}
use Rattle.rows.proofs.SizeLaws.{sized_of as Sized-rows}
use Rattle.forms.proofs.CopyLaws.{all_from, codes_fit_in}
use Rattle.forms.proofs.copy.fill_table.Goals as goal

-- the steps, from the last
pub store_codes-requires : goal.store_codes-requires
store_codes-requires c = (
  c.joined_from.auto.table ∙ c.store_clock.auto.cells ∙ c.clear.auto.cells ∙ c.requires.to,
  codes_fit_in _ c.requires.router _ (Sized-rows _) c.codes.ensures,
)

pub peers_from-requires : goal.peers_from-requires
peers_from-requires c = (
  record {
    from = c.requires.from;
    to =
        c.store_setup.auto.cells ∙ c.store_codes.auto.cells ∙ c.joined_from.auto.table ∙ c.store_clock.auto.cells
        ∙ c.clear.auto.cells
        ∙ c.requires.to;
    router = c.requires.router;
  },
  c.records_end-n.ensures.0,
)

pub topics_from-requires : goal.topics_from-requires
topics_from-requires c = (
  record {
    from = c.requires.from;
    to =
        c.peers_from.auto.table ∙ c.store_setup.auto.cells ∙ c.store_codes.auto.cells ∙ c.joined_from.auto.table
        ∙ c.store_clock.auto.cells
        ∙ c.clear.auto.cells
        ∙ c.requires.to;
    router = c.requires.router;
  },
  c.records_end-n.ensures.0,
)

pub returns : goal.returns
returns c =
    all_from (state_of_rows c.args.rows.now) _ _ _ _ _ _ _ _ (Sized-rows c.args.rows.now) (sized_of _) (sized_of _) (sized_of _)
    c.records_end-n.ensures.0
    c.records_end-n.ensures.1
    c.clear.ensures
    (c.store_clock.ensures.0 ∙ ap (set_clock _) c.load_clock.ensures)
    c.joined_from.ensures
    (c.store_codes.ensures ∙ ap (set_codes _) c.codes.ensures)
    (c.store_setup.ensures ∙ ap (set_setup _) c.load_setup.ensures)
    c.peers_from.ensures
    c.topics_from.ensures
