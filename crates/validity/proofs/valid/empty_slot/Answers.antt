-- `validity::valid::empty_slot`: the peer's record, then its topics. Assumes nothing.
use mathlib.Core.Path.{ap, ◌∙◌, sym}
use Rattle.validity.specs.Valid.{zero_peer}
use Rattle.validity.proofs.OrderLaws.{zeros_are, zero_fails}
use Rattle.validity.proofs.valid.empty_slot.Goals as goal

pub returns-then-not-zero_peer : goal.returns-then-not-zero_peer
returns-then-not-zero_peer c =
    zero_fails _ _ c.requires.1.1
    (sym (c.zero_peer.ensures ∙ ap zero_peer c.load_peer.ensures.0) ∙ c.if-not-zero_peer.true)

pub returns : goal.returns
returns c =
    zeros_are _ _ c.requires.1.1
    (sym (c.zero_peer.ensures ∙ ap zero_peer c.load_peer.ensures.0) ∙ c.if-not-zero_peer.false) _ c.zero_topics.ensures
