-- `heartbeat::tell::tell_walk`: the loop has the rest of the walk still to write.
use Prim.Native.Nat.{◌+◌, ◌*◌, ◌≤◌}
use mathlib.Core.Path.{◌≡◌}
use lib.ListN.{length, drop}
use lib.Seq.{sets}
use Rattle.layout.specs.View.{state_of}
use Rattle.words.specs.Words.{bits_of}
use Rattle.mesh.specs.Maintenance.{actions_on, numbers_of}
use Rattle.heartbeat.specs.Tell.{ids_in, told_by}
use Rattle.heartbeat.proofs.tell.tell_walk.Given as goal

abbrev pub invariant-loop-s : goal.invariant-loop-s
invariant-loop-s l =
    (l.s-index ≤ length l.order)
    × (length l.actions ≡ length l.initial.actions)
    × (l.k + length (actions_on l.kind (bits_of l.p) (drop l.s-index l.order)) ≡ l.n + length (actions_on l.kind (bits_of l.p) l.order))
    × (sets l.actions (3 * l.k)
    (numbers_of (ids_in (state_of l.table)) (told_by (state_of l.table) l.seconds) (actions_on l.kind (bits_of l.p) (drop l.s-index l.order)))
    ≡ sets l.initial.actions (3 * l.n)
    (numbers_of (ids_in (state_of l.table)) (told_by (state_of l.table) l.seconds) (actions_on l.kind (bits_of l.p) l.order)))
