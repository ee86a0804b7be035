-- What is known behind the tests 12, 2, 8 and 1, as the functions on the table and on the array rely on it.
-- Assumes nothing.
use Rattle.index.proofs.Kit.{ℕ, ◌<◌, ◌≡◌, true}
use mathlib.Core.List.{List}
use Rattle.index.proofs.Index.{both}
use Rattle.records.specs.Records.{slot_count, topic_count}
use Rattle.layout.specs.View.{state_of}
use Rattle.validity.specs.Valid.{valid}
use Rattle.gossip.specs.Valid.{gossip_ok, valid_all}
use Rattle.gossip_table.specs.View.{gossip_of}
use Rattle.gossip_table.specs.Fine.{Fine, FineSlot, FineTopic}
use Rattle.gossip_gate.specs.Admitted.{Admitted}

module _ {table gossip : List ℕ} {time : ℕ} (a : Admitted table gossip time) where
  pub admitted_valid : valid (state_of table) ≡ true
  unfolding valid_all
  admitted_valid = (both (valid (state_of table)) (gossip_ok (state_of table) (gossip_of gossip)) a.router).0

  pub admitted_fine : Fine gossip
  unfolding valid_all
  admitted_fine =
      record {
        size = a.sizes;
        base = state_of table;
        ok = (both (valid (state_of table)) (gossip_ok (state_of table) (gossip_of gossip)) a.router).1;
      }

  pub admitted_slot : {s : ℕ} → s < slot_count → FineSlot gossip s
  admitted_slot l = record { fine = admitted_fine; slot = l }

  pub admitted_topic : {t : ℕ} → t < topic_count → FineTopic gossip t
  admitted_topic l = record { fine = admitted_fine; topic = l }
