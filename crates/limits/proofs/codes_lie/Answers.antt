-- `limits::codes_lie`: the general numbers, then the topics'. Assumes nothing.
use mathlib.Core.Path.{sym, ◌∙◌}
use mathlib.Core.List.{map}
use Rattle.varint.specs.Codes.{number_of}
use Rattle.limits.specs.Limits.{in_limits}
use Rattle.limits.proofs.RowLaws.{general_fails, fields_are}
use Rattle.limits.proofs.codes_lie.Goals as goal

pub returns-then-not-general_lie : goal.returns-then-not-general_lie
returns-then-not-general_lie c = general_fails _ (sym c.general_lie.ensures ∙ c.if-not-general_lie.true)

pub returns : goal.returns
returns c =
    fields_are (in_limits (map number_of c.args.codes.now))
    (sym c.general_lie.ensures ∙ c.if-not-general_lie.false) _ c.fields_lie.ensures
