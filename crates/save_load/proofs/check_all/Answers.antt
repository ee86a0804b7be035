-- `save_load::check_all`: each end by its case. Assumes nothing.
use mathlib.Core.Path.{◌≡◌, sym, ◌∙◌}
use borrow.Author.Rules.{rules}
use lib.ListN.{length}
use Rattle.save_load.proofs.CheckLaws.{check_sheet, check_clock, check_fine}
use Rattle.records.specs.Records.{param_count}
use Rattle.save_load.proofs.check_all.Goals as goal

pub returns-in-Some : goal.returns-in-Some
returns-in-Some c = check_sheet _ _ _ _ c.first_broken.ensures _ c.in-Some.is

pub returns-then-clock-gt-MAX_TIME : goal.returns-then-clock-gt-MAX_TIME
returns-then-clock-gt-MAX_TIME c = check_clock _ _ _ _ c.first_broken.ensures c.in_default.is c.if-clock-gt-MAX_TIME.true

pub returns : goal.returns
returns c =
    let n : length c.args.params.numbers ≡ param_count = search rules in
    check_fine c.args.params c.args.clock c.args.s.now _
    c.first_broken.ensures
    c.in_default.is
    c.if-clock-gt-MAX_TIME.false
    c.check_edition.result
    (c.check_edition.ensures c.args.params c.args.clock
    (record {
      size = n;
      passes = sym c.first_broken.ensures
          ∙ c.in_default.is;
      same = c.codes_of-codes.ensures;
    }))
