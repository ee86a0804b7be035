-- `effects::slots::delay`: one end stored is the record with that end, since the others stand.
-- Assumes nothing.
use mathlib.Core.Path.{◌≡◌, ap, ◌∙◌}
use native.Mathlib.Omega.{arith}
use lib.ListN.{length}
use Rattle.records.specs.declared.Peer.{Peer}
use Rattle.layout.proofs.StateLaws.{sized_of}
use Rattle.effects.proofs.EffectLaws.{stored_end}
use Rattle.effects.proofs.slots.delay.Goals as goal

pub returns : goal.returns
returns c =
    let e = c.load_peer.ensures.0 in
    let g : length c.load_peer.result.backoff ≡ 8 = ap (λ (p : Peer). length p.backoff) e ∙ (sized_of _).ends _ in
    stored_end _ _ _ _ _ _ _ (omega (arith, g)) e c.with_end-p.ensures c.store_end.ensures
