-- `effects::slots::unsubscribe_slot`: the two bits go.
use native.Mathlib.Omega.{arith}
use Rattle.records.specs.Records.{place}
use Rattle.layout.specs.View.{state_of}
use Rattle.layout.proofs.StateLaws.{sized_of}
use Rattle.effects.proofs.EffectLaws.{gone_stored}
use Rattle.effects.proofs.slots.unsubscribe_slot.Goals as goal

pub returns : goal.returns
returns c =
    let z = (sized_of c.args.table.now).topics in
    let h = c.requires.slot in
    let l = c.requires.topic in
    gone_stored (state_of c.args.table.now) _ _ (place c.args.slot c.args.topic) (omega arith)
    c.leave_mesh.ensures c.store_subscribed.ensures
