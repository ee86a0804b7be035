use mathlib.Core.Path.{ap, ◌∙◌}
use Rattle.records.specs.Records.{set_topic}
use Rattle.layout.proofs.store_topic.Goals as goal

pub returns : goal.returns
returns c =
    c.write_topic.ensures
    ∙ ap (λ st. set_topic st c.args.k c.args.t) c.need_slot.ensures.0
