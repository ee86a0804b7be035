-- What a call of a peer begins with: the tests 12, 2, 8 and 1, and then 3, "no connected record holds the id".
use Rattle.std.specs.Prelude.{ℕ, Bool, Option, Some, None, Result, Ok, Err}
use Rattle.records.specs.Records.{State}
use Rattle.lookup.specs.Find.{find_connected}
use Rattle.rules.specs.declared.Answer.{Answer}
use Rattle.rules.specs.declared.Answer.TheVariants.{NotConnected}
use Rattle.rules.specs.Step.{gate_of}

abbrev pub slot_behind : Result (Unit {0}) Answer → Option ℕ → Result ℕ Answer
slot_behind (Err a) found = Err a
slot_behind (Ok tt) None = Err NotConnected
slot_behind (Ok tt) (Some s) = Ok s

-- the slot of the peer, or what the call answers
unfoldable pub peer_gate : State → Bool → ℕ → ℕ → ℕ → Result ℕ Answer
peer_gate st fine room time id = slot_behind (gate_of st fine room time) (find_connected st id)
