-- A router keeps the set-up that it was made with, whatever calls come: the edition of its parameters (02, order 14).
use Rattle.std.specs.Prelude.{◌≡◌, List}
use Rattle.lookup.specs.Fresh.{setup_of}
use Rattle.call_lists.specs.Lists.{Start, Made, after}
use Rattle.call_lists.specs.Demand3.{Accepted}

abbrev pub SetupStands : Type 0
SetupStands = (start : Start) (calls : List Made) → Accepted start → (after start calls).setup ≡ setup_of start.params
