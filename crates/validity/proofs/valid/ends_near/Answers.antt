-- `validity::valid::ends_near`: the clock and the record, and the test of its ends. Assumes nothing.
use native.Mathlib.Omega.{arith}
use mathlib.Core.Path.{ap₂, ◌∙◌}
use Prim.Native.Nat.{ℕ}
use Rattle.records.specs.declared.Peer.{Peer}
use Rattle.validity.specs.Valid.{max_end, ends_up_to}
use Rattle.validity.proofs.valid.ends_near.Goals as goal

pub overflow_add-clock : goal.overflow_add-clock
overflow_add-clock c = omega (arith, c.load_clock-clock.ensures, c.requires.1.1)

pub returns : goal.returns
returns c =
    c.ends_up_to.ensures
    ∙ ap₂ (λ (n : ℕ) (p : Peer). ends_up_to (max_end n) p) c.load_clock-clock.ensures c.load_peer-p.ensures.0
