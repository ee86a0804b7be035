-- Cells that were moved up, from what a copy within them promises.
-- Assumes nothing.
use Prim.Native.Nat.{ℕ, ◌+◌, ◌-◌, ◌≤◌}
use mathlib.Core.Path.{◌≡◌, ap, ◌∙◌}
use mathlib.Core.List.{List}
use native.Mathlib.Omega.{arith}
use lib.ListN.{get_or}
use Rattle.gossip.specs.Cells.{Run}
use Rattle.notes.specs.Moves.{MovedUp}

pub moved_run : (c d : List ℕ) (at end w : ℕ) → at ≤ end → Run c d (at + w) (end - at) (λ k. get_or c (at + k) 0) → MovedUp c d at end w
moved_run c d at end w h r =
    record {
      size = r.size;
      below = r.before;
      moved = λ k a b.
          let e : k + w ≡ at + w + (k - at) = omega arith in
          let f : at + (k - at) ≡ k = omega arith in
          ap (λ (m : ℕ). get_or d m 0) e ∙ r.within (k - at) (omega arith) ∙ ap (λ (m : ℕ). get_or c m 0) f;
      above = λ k l. r.after k (omega arith);
    }
