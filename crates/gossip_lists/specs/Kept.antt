-- What holds of every call at once: "Tables are a router's if [..]. Each call keeps this so", with what orders 6 and 7 add to test 12.
use Rattle.std.specs.Prelude.{ℕ, ◌≤◌, ◌≡◌, true, List, length}
use Rattle.records.specs.Records.{slot_count}
use Rattle.layout.specs.View.{Sized}
use Rattle.gossip.specs.Notes.{Extended, numbers_most}
use Rattle.gossip.specs.Valid.{SizedGossip, valid_all}
use Rattle.gossip.specs.Calls.{New, Any}
use Rattle.gossip.specs.Step.{FullReply, new_step, step_all}
use Rattle.gossip_lists.specs.Lists.{Start, AcceptedAll, Did, after_all}

-- a table's sizes, and a router's
pub record Whole (x : Extended) : Type 0 where
  pub size : Sized x.base
  pub sizes : SizedGossip x.gossip
  pub router : valid_all x ≡ true

abbrev pub KeepsAll : Type 0
KeepsAll = (x : Extended) (c : Any) (room : ℕ) → Whole x → Whole (step_all x c room).state

-- and so it is after every list
abbrev pub WholeAfter : Type 0
WholeAfter = (start : Start) (calls : List Did) → AcceptedAll start → Whole (after_all start calls)

-- "action list like 01's", and "such a list" of 192 numbers: what a call gives fits both, from every state
pub record Fits (r : FullReply) : Type 0 where
  pub actions : length r.actions ≤ slot_count
  pub numbers : length r.numbers ≤ numbers_most

abbrev pub FitsNew : Type 0
FitsNew = (x : Extended) (c : New) (room : ℕ) → Fits (new_step x c room)
