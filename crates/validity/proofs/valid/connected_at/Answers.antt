-- `validity::valid::connected_at`: the clock and the record, and their test. Assumes nothing.
use native.Mathlib.Omega.{arith}
use mathlib.Core.Path.{ap, ap₂, ◌∙◌}
use Prim.Native.Nat.{ℕ}
use Rattle.records.specs.declared.Peer.{Peer}
use Rattle.validity.specs.Valid.{max_end, ends_up_to, peer_ok}
use Rattle.validity.proofs.valid.connected_at.Goals as goal

pub connected_ok-requires : goal.connected_ok-requires
connected_ok-requires c =
    let e = c.load_peer-p.ensures.0 in
    let k = c.load_clock-clock.ensures in
    let pre = c.requires in (
      omega (arith, k, pre.1.1.0),
      (ap (λ (p : Peer). p.status) e ∙ pre.1.1.1.0, ap₂ (λ (n : ℕ) (p : Peer). ends_up_to (max_end n) p) k e ∙ pre.1.1.1.1),
    )

pub returns : goal.returns
returns c = c.connected_ok.ensures ∙ ap₂ peer_ok c.load_clock-clock.ensures c.load_peer-p.ensures.0
