-- `effects::connections::reclaim_slot`: the record goes if it may be reclaimed.
use mathlib.Core.Path.{refl, sym, ap, ◌∙◌}
use mathlib.Core.Bool.{true≢false}
use Rattle.index.proofs.Flags.{yes, no}
use Rattle.records.specs.declared.Peer.{Peer}
use Rattle.effects.specs.Effects.{reclaimable}
use Rattle.effects.proofs.EffectLaws.{reclaim_yes, reclaim_no}
use Rattle.effects.proofs.connections.reclaim_slot.Goals as goal

pub returns-then-reclaimable : goal.returns-then-reclaimable
returns-then-reclaimable c =
    let a = c.args in
    let e = c.reclaimable.ensures ∙ ap (λ (p : Peer). reclaimable p a.time) c.load_peer-p.ensures.0 in
    let t = yes e c.if-reclaimable.true in
    (c.empty_slot.ensures ∙ sym (reclaim_yes _ _ _ t), λ f. absurd (true≢false (sym t ∙ f)))

pub returns-else-reclaimable : goal.returns-else-reclaimable
returns-else-reclaimable c =
    let a = c.args in
    let e = c.reclaimable.ensures ∙ ap (λ (p : Peer). reclaimable p a.time) c.load_peer-p.ensures.0 in
    (sym (reclaim_no _ _ _ (no e c.if-reclaimable.false)), λ f. refl)
