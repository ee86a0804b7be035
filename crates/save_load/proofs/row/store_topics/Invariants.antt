-- `save_load::row::store_topics`: after t turns the topics below t are stored. Assumes nothing.
use Prim.Native.Nat.{◌≤◌}
use mathlib.Core.Path.{◌≡◌}
use lib.ListN.{length}
use Rattle.index.specs.Index.{iter}
use Rattle.layout.specs.View.{cell_count, state_of}
use Rattle.save_load.specs.Store.{stored_topic}
use Rattle.save_load.proofs.row.store_topics.Given as goal

abbrev pub invariant-loop-t : goal.invariant-loop-t
invariant-loop-t l =
    (l.t ≤ 8) × ((length l.table ≡ cell_count) × (state_of l.table ≡ iter l.t (stored_topic l.row l.slot) (state_of l.initial.table)))
