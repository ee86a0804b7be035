-- `validity::slots::holes_word`: a walk over the set bits, up to slot n. Assumes nothing.
use Prim.Native.Nat.{◌+◌, ◌*◌, ◌<◌}
use mathlib.Core.Path.{◌≡◌}
use mathlib.Core.Bool.{true}
use Rattle.layout.specs.View.{state_of}
use Rattle.validity.specs.Valid.{slot_ok}
use Rattle.slot_words.proofs.WalkLaws.{Walked}
use Rattle.validity.proofs.slots.holes_word.Given as goal

abbrev pub invariant-loop-b : goal.invariant-loop-b
invariant-loop-b l = Walked (λ j. 64 * l.i + j < l.n → slot_ok (state_of l.table) (64 * l.i + j) ≡ true) l.w l.b

abbrev pub decreases-loop-b : goal.decreases-loop-b
decreases-loop-b l = l.b
