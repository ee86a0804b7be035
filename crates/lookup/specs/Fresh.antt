-- Making a fresh router (01: "making a fresh router 9"; "The clock of a fresh router is 0."): no topic is joined and every record is empty.
-- What stood in the lent table does not matter.
use Rattle.std.specs.Prelude.{Option, Some, None, Result, Ok, Err}
use Rattle.lookup.specs.declared.FreshError.{FreshError}
use Rattle.lookup.specs.declared.FreshError.TheVariants.{Broken}
use Rattle.std.specs.Prelude.{ℕ, ◌≡◌, List, map, replicate}
use Rattle.varint.specs.Codes.{code_of}
use Rattle.params.specs.declared.Params.{Params}
use Rattle.params.specs.Editions.{edition_number}
use Rattle.params.specs.Check.{first_broken}
use Rattle.records.specs.declared.Setup.{Setup}
use Rattle.records.specs.Records.{State, slot_count, topic_count, no_peer, no_topic}
use Rattle.layout.specs.View.{place_count, state_of}

abbrev pub setup_of : Params → Setup
setup_of p = record { edition = edition_number p.edition }

unfoldable pub fresh_state : Params → State
fresh_state p =
    record {
      clock = 0;
      joined = replicate topic_count 0;
      codes = map code_of p.numbers;
      setup = setup_of p;
      peers = replicate slot_count no_peer;
      topics = replicate place_count no_topic;
    }

-- 9: "first index; if none, 200 + first rule (0 to 7); nothing changed"
abbrev pub made_of : Option ℕ → Result (Unit {0}) FreshError
made_of (Some i) = Err (Broken i)
made_of None = Ok tt

abbrev pub left_by : Option ℕ → Params → State → State
left_by (Some i) p st = st
left_by None p st = fresh_state p

-- 01's number of an answer, and the value that goes with it
abbrev pub made_number : Result (Unit {0}) FreshError → ℕ
made_number (Ok tt) = 0
made_number (Err (Broken i)) = 9

abbrev pub made_value : Result (Unit {0}) FreshError → ℕ
made_value (Ok tt) = 0
made_value (Err (Broken i)) = i

-- r is the answer, table what stood there and table' what stands there after it
pub record Makes (p : Params) (r : Result (Unit {0}) FreshError) (table table' : List ℕ) : Type 0 where
  pub answer : r ≡ made_of (first_broken p)
  pub state : state_of table' ≡ left_by (first_broken p) p (state_of table)
  pub kept : (i : ℕ) → r ≡ Err (Broken i) → table' ≡ table
