-- The peer that a call comes from: its slot behind the tests 12, 2, 8, 1 and 3, or the number of the test that is not passed.
use Rattle.std.specs.Prelude.{ℕ, zero, suc, Bool, Option, Result, Err, ok_or}
use Rattle.lookup.specs.Find.{find_connected}
use Rattle.gossip.specs.Notes.{Extended}
use Rattle.gossip_gate.specs.Promise.{gate_all}

abbrev pub found_behind : ℕ → Option ℕ → Result ℕ ℕ
found_behind zero f = ok_or f 3
found_behind (suc n) f = Err (suc n)

unfoldable pub admitted_peer : Extended → Bool → Bool → ℕ → ℕ → Result ℕ ℕ
admitted_peer x fine fits time id = found_behind (gate_all x fine fits time) (find_connected x.base id)
