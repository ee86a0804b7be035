-- `save_write::row::fill_row`: after t topics the row is filled so far (`Filled`). Assumes nothing.
use Rattle.records.specs.Records.{place, peer_in, topic_in}
use Rattle.saves.specs.Save.{as_left}
use Rattle.layout.specs.View.{state_of}
use Rattle.save_write.proofs.FillLaws.{Filled}
use Rattle.save_write.proofs.row.fill_row.Given as goal

abbrev pub invariant-loop-t : goal.invariant-loop-t
invariant-loop-t l =
    Filled l.time (as_left (state_of l.table) l.time (peer_in (state_of l.table) l.slot)) (λ k. topic_in (state_of l.table) (place l.slot k)) l.t l.initial.row
    l.row
