use borrow.Author.Rules.{rules}
use mathlib.Core.Path.{◌≡◌, ◌∙◌}
use lib.ListN.{length}
use Rattle.records.specs.Records.{param_count}
use Rattle.lookup.proofs.FreshLaws.{filled, fresh_fit}
use Rattle.lookup.proofs.fresh.fill.Goals as goal

pub store_codes-requires : goal.store_codes-requires
store_codes-requires c =
    let n : length c.args.params.numbers ≡ param_count = search rules in
    (c.clear.auto.cells ∙ c.requires.0, fresh_fit c.args.params _ c.codes_of-codes.ensures n c.requires.1)

pub returns : goal.returns
returns c =
    filled c.args.params _ _ _ _ _ c.store_setup.ensures
    c.store_codes.ensures c.clear.ensures c.codes_of-codes.ensures
    c.from-number.ensures
