-- `trace_events::lines::put_letter` meets its contract. Assumes nothing.
use mathlib.Core.List.{[], ◌∷◌}
use Rattle.text.proofs.TextLaws.{stored_then}
use Rattle.trace_events.proofs.lines.put_letter.Goals as goal

pub returns : goal.returns
returns c =
    stored_then c.args.out.now _ _
    (c.args.letter ∷ []) _ _ (32 ∷ []) _
    c.put_byte-k.ensures c.put_byte.ensures
