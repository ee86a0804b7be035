-- `validity::valid::topic_ok`: the ranges, then the rest. Assumes nothing.
use mathlib.Core.Path.{sym, ◌∙◌}
use Rattle.validity.proofs.OrderLaws.{counters_fail, flags_fail, rest_is}
use Rattle.validity.proofs.valid.topic_ok.Goals as goal

pub returns-then-not-counter_ranges : goal.returns-then-not-counter_ranges
returns-then-not-counter_ranges c = counters_fail _ _ _ _ _ _ _ (sym c.counter_ranges.ensures ∙ c.if-not-counter_ranges.true)

pub returns-then-not-flag_ranges : goal.returns-then-not-flag_ranges
returns-then-not-flag_ranges c =
    flags_fail _ _ _ _ _ _ _ (sym c.counter_ranges.ensures ∙ c.if-not-counter_ranges.false)
    (sym c.flag_ranges.ensures ∙ c.if-not-flag_ranges.true)

pub returns : goal.returns
returns c =
    rest_is _ _ _ _ _ _ _ (sym c.counter_ranges.ensures ∙ c.if-not-counter_ranges.false)
    (sym c.flag_ranges.ensures ∙ c.if-not-flag_ranges.false) _ c.rest_ok.ensures
