-- `sets::walks::swap_to` meets its contract. The loop has the swaps that are left still to make.
-- Assumes nothing.
use Prim.Native.Nat.{◌-◌}
use mathlib.Core.Path.{◌≡◌}
use Rattle.records.specs.Records.{slot_count}
use Rattle.words.specs.Words.{bits_of}
use Rattle.sets.specs.Sets.{swap_to}
use Rattle.sets.proofs.walks.swap_to.Given as goal

abbrev pub invariant-loop-swap : goal.invariant-loop-swap
invariant-loop-swap l =
    swap_to slot_count l.out l.scores (bits_of l.outbound) l.order (bits_of l.m) (bits_of l.b) (l.out - l.swap) (bits_of l.r)
    ≡ swap_to slot_count l.out l.scores (bits_of l.outbound) l.order (bits_of l.m) (bits_of l.b) l.out (bits_of l.initial.r)
