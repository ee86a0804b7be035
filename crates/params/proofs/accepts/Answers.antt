-- `params::accepts` meets its contract. Assumes nothing.
use Rattle.index.proofs.Kit.{◌∙◌}
use Rattle.params.proofs.CheckLaws.{codes_short, codes_outside, codes_within, codes_judged, none_told}
use Rattle.params.proofs.accepts.Goals as goal

pub returns-then-codes-ne-NUMBERS : goal.returns-then-codes-ne-NUMBERS
returns-then-codes-ne-NUMBERS c = codes_short _ _ c.if-codes-ne-NUMBERS.true

pub returns-then-not-codes_lie : goal.returns-then-not-codes_lie
returns-then-not-codes_lie c = codes_outside _ _ c.if-codes-ne-NUMBERS.false _ c.codes_lie.ensures c.if-not-codes_lie.true

pub first_rule-requires : goal.first_rule-requires
first_rule-requires c = (
  c.if-codes-ne-NUMBERS.false,
  codes_within c.args.edition c.args.codes.now
      c.if-codes-ne-NUMBERS.false _ c.codes_lie.ensures c.if-not-codes_lie.false,
)

pub returns : goal.returns
returns c =
    none_told _ _ c.is_none.ensures
    ∙ codes_judged c.args.edition c.args.codes.now c.if-codes-ne-NUMBERS.false _ c.codes_lie.ensures _ c.if-not-codes_lie.false
    c.first_rule.ensures
