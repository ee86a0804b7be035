-- What the inner functions of the three calls may rely on once test 12 is passed, of the table and of the array. No public call asks it of
-- its caller.
use Rattle.std.specs.Prelude.{Option, Some}
use Rattle.std.specs.Prelude.{ℕ, ◌<◌, ◌≡◌, Bool, true, cond, List, length}
use Rattle.records.specs.Records.{slot_count}
use Rattle.layout.specs.View.{state_of}
use Rattle.sets.specs.Sets.{by_slot}
use Rattle.rules.specs.Calls.{Call}
use Rattle.rules.specs.Step.{step}
use Rattle.gossip.specs.Notes.{Gossip, no_note, note_in}
use Rattle.gossip.specs.Valid.{gossip_ok}
use Rattle.gossip.specs.Step.{extended}
use Rattle.gossip_table.specs.View.{gossip_of, extended_of, set_notes}
use Rattle.gossip_table.specs.Fine.{Fine}
use Rattle.gossip_gate.specs.Promise.{GivesAll}

-- the array is right beside the table
abbrev pub Tested : (table gossip : List ℕ) → Type 0
Tested table gossip = gossip_ok (state_of table) (gossip_of gossip) ≡ true

-- behind test 12 the reply is 01's, and what the call does besides
abbrev pub GivesOld : Call → ℕ → (table table' gossip gossip' list list' : List ℕ) → Type 0
GivesOld c r table table' gossip gossip' list list' =
    GivesAll (extended (extended_of table gossip) c (step (state_of table) c (length list))) r table table' gossip gossip' list list'

-- an array that was found right, and where a connected record was found
abbrev pub in_slots : Option ℕ → Type 0
in_slots f = (s : ℕ) → f ≡ Some s → s < slot_count

pub record FineFound (gossip : List ℕ) (f : Option ℕ) : Type 0 where
  pub fine : Fine gossip
  pub slot : in_slots f

-- the notes of the slots that f names emptied, the others kept
abbrev pub emptied : (ℕ → Bool) → Gossip → Gossip
emptied f g = set_notes g (by_slot slot_count (λ s. cond (f s) no_note (note_in g s)))
