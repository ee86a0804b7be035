-- `layout::need_slot`: the mark rises one by one, and each time the state stays.
use mathlib.Core.Path.{◌≡◌}
use lib.ListN.{length}
use Rattle.layout.specs.View.{cell_count, used_of, state_of}
use Rattle.layout.proofs.need_slot.Given as goal

abbrev pub invariant-loop-s : goal.invariant-loop-s
invariant-loop-s l = (length l.cells ≡ cell_count) × (state_of l.cells ≡ state_of l.initial.cells) × (used_of l.cells ≡ l.s)
