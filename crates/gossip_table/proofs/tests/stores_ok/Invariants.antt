-- `gossip_table::tests::stores_ok`: where nothing is stored all pass; else the loop asks topic by topic.
use Rattle.index.proofs.Kit.{◌≤◌, ◌≡◌, every, true}
use Rattle.records.specs.Records.{topic_count}
use Rattle.layout.specs.View.{state_of}
use Rattle.effects.specs.Effects.{is_joined}
use Rattle.gossip.specs.Notes.{store_in}
use Rattle.gossip.specs.Valid.{store_ok}
use Rattle.gossip_table.specs.View.{gossip_of}
use Rattle.gossip_table.proofs.tests.stores_ok.Given as goal

abbrev pub invariant-loop-t : goal.invariant-loop-t
invariant-loop-t l =
    (l.t ≤ topic_count) × (every l.t (λ k. store_ok (is_joined (state_of l.table) k) (store_in (gossip_of l.gossip) k)) ≡ true)
