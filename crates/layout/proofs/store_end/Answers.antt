use mathlib.Core.Path.{ap, ◌∙◌}
use Rattle.records.specs.Records.{set_peer, peer_in}
use Rattle.layout.specs.View.{set_end}
use Rattle.layout.proofs.store_end.Goals as goal

pub returns : goal.returns
returns c =
    c.write_end.ensures
    ∙ ap (λ st. set_peer st c.args.slot (set_end (peer_in st c.args.slot) c.args.t c.args.end))
    c.need_slot.ensures.0
