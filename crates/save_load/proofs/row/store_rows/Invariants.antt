-- `save_load::row::store_rows`: after k records, they are stored, and the next stands at `place`. Assumes nothing.
use Prim.Native.Nat.{ℕ, ◌*◌, ◌≤◌}
use mathlib.Core.Path.{◌≡◌}
use lib.ListN.{length, take}
use mathlib.Core.List.{List}
use Rattle.layout.specs.View.{cell_count, state_of}
use Rattle.saves.specs.Load.{numbers, parse_from}
use Rattle.save_load.specs.Store.{stored_all}
use Rattle.save_load.proofs.row.store_rows.Given as goal

abbrev pub invariant-loop-k : goal.invariant-loop-k
invariant-loop-k l =
    (l.k ≤ l.n)
    × ((length l.table ≡ cell_count)
    × ((length l.row ≡ 44)
    × ((m : List ℕ) (end : ℕ) → parse_from (l.n * 44) l.s l.at ≡ numbers m end →
    (parse_from (l.k * 44) l.s l.at ≡ numbers (take (l.k * 44) m) l.place) × (state_of l.table ≡ stored_all l.clock l.k m (state_of l.initial.table)))))
