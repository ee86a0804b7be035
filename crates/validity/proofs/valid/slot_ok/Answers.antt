use mathlib.Core.Path.{sym, ◌∙◌}
use Rattle.validity.proofs.valid.slot_ok.Goals as goal

pub connected_slot-requires : goal.connected_slot-requires
connected_slot-requires c =
    (c.requires.0, (c.requires.1.0, (c.requires.1.1.0, (c.requires.1.1.1, sym c.load_status-status.ensures ∙ c.if-status-eq1.true))))

pub empty_slot-requires : goal.empty_slot-requires
empty_slot-requires c =
    (c.requires.0, (c.requires.1.0, sym c.load_status-status.ensures ∙ c.if-status-eq0.true))
