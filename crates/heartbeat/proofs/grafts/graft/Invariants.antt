-- `heartbeat::grafts::graft`: before each turn the rest of the walk gives the whole, whatever set has the wanted.
use Prim.Native.Nat.{◌≤◌}
use mathlib.Core.Path.{◌≡◌}
use lib.ListN.{length}
use Rattle.layout.specs.View.{state_of}
use Rattle.words.specs.Words.{word_count, bits_of}
use Rattle.heartbeat.proofs.GraftLaws.{Walk}
use Rattle.heartbeat.proofs.grafts.graft.Given as goal

abbrev pub invariant-loop-s : goal.invariant-loop-s
invariant-loop-s l =
    (l.s-index ≤ length l.order)
    × (length l.p ≡ word_count)
    × (length l.r ≡ word_count)
    × Walk (state_of l.table) l.time l.topic l.least (bits_of l.p) l.order l.initial.room (bits_of l.initial.r) l.initial.heights l.s-index l.room (bits_of l.r)
    l.heights
