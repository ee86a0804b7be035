use mathlib.Core.Path.{ap, ◌∙◌}
use Rattle.records.specs.Records.{set_peer}
use Rattle.layout.proofs.store_peer.Goals as goal

pub returns : goal.returns
returns c =
    c.write_peer.ensures
    ∙ ap (λ st. set_peer st c.args.slot c.args.p) c.need_slot.ensures.0
