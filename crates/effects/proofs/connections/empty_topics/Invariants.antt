-- `effects::connections::empty_topics`: after t turns the records of the topics below t are empty.
use Rattle.index.proofs.Kit.{◌≤◌, ◌≡◌, iter}
use lib.ListN.{length}
use Rattle.layout.specs.View.{cell_count, state_of}
use Rattle.records.specs.Records.{set_topic, place, no_topic}
use Rattle.effects.proofs.connections.empty_topics.Given as goal

abbrev pub invariant-loop-t : goal.invariant-loop-t
invariant-loop-t l =
    (l.t ≤ 8) × (length l.table ≡ cell_count) × (state_of l.table ≡ iter l.t (λ t u. set_topic u (place l.slot t) no_topic) (state_of l.initial.table))
