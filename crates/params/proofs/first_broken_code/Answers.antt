-- `params::first_broken_code` meets its contract. Assumes nothing.
use Rattle.index.proofs.Kit.{arith, ◌∙◌}
use Rattle.params.specs.Editions.{coded}
use Rattle.params.proofs.CheckLaws.{found_within, number_broken, rule_broken, none_broken, rule_small}
use Rattle.params.proofs.first_broken_code.Goals as goal

pub returns-in-Some : goal.returns-in-Some
returns-in-Some c = number_broken (coded c.args.edition c.args.codes.now) _ c.first_outside.ensures _ c.in-Some.is

pub first_rule-requires : goal.first_rule-requires
first_rule-requires c = (c.requires, found_within _ _ c.first_outside.ensures c.in_default.is)

pub returns-in_err-k : goal.returns-in_err-k
returns-in_err-k c =
    c.from_residual.ensures
    ∙ none_broken (coded c.args.edition c.args.codes.now) _ c.first_outside.ensures c.in_default.is _ c.first_rule.ensures c.in_err-k.was

pub overflow_add-result : goal.overflow_add-result
overflow_add-result c = omega (arith, rule_small _ _ _ _ c.first_rule.ensures c.in_ok-k.was)

pub returns : goal.returns
returns c =
    rule_broken (coded c.args.edition c.args.codes.now) _ c.first_outside.ensures c.in_default.is _ c.first_rule.ensures _ c.in_ok-k.was
