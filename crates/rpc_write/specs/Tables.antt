-- What the writer's functions are lent, and a list of entries that is accepted.
use Rattle.std.specs.Prelude.{ℕ, ◌+◌, ◌*◌, ◌≡◌, true, List, get_or}
use Rattle.rpc.specs.Reading.{Known, known}
use Rattle.rpc_write.specs.Writing.{list_ok}
use Rattle.rpc_write.specs.declared.Entry.{Entry}
use Rattle.rpc_write.specs.declared.Tables.{Tables}

abbrev pub known_by : Tables → Known
known_by t = known t.names.now t.table.ids.now t.table.numbers.now

abbrev pub Given : Tables → List ℕ → ℕ → Type 0
Given t list n = list_ok (known_by t) list n ≡ true

-- the entry at a place of a list
abbrev pub entry_at : List ℕ → ℕ → Entry
entry_at list i = record { kind = get_or list (3 * i) 0; topic = get_or list (3 * i + 1) 0; value = get_or list (3 * i + 2) 0 }
