-- `gossip_calls::announcing::announce`: the refusals of the first tests, or what `announce_from` gives.
use borrow.Author.Rules.{rules}
use mathlib.Core.Path.{refl}
use Rattle.gossip.specs.Step.{new_effect}
use Rattle.gossip.specs.Calls.{announce}
use lib.ListN.{length}
use Rattle.gossip_calls.proofs.NumberLaws.{lists_refused, lists_given, announcing}
use Rattle.gossip_calls.proofs.announcing.announce.Goals as goal

pub returns-then-gate-ne0 : goal.returns-then-gate-ne0
returns-then-gate-ne0 c =
    let a = c.args in
    lists_refused (announce a.time a.topic a.permutation.now (length a.numbers.now)) _ _ _ _ _ _ _ _
    c.time_ok.ensures
    c.topic_ok.ensures
    refl
    c.admit-gate.ensures
    c.if-gate-ne0.true

pub announce_from-requires : goal.announce_from-requires
announce_from-requires c =
    announcing _ _ _ _ _ _ _ _ _ c.admit-gate.ensures c.if-gate-ne0.false c.time_ok.ensures
    (search rules)
    (search rules)
    c.topic_ok.ensures

pub returns : goal.returns
unfolding new_effect
returns c =
    let a = c.args in
    lists_given (announce a.time a.topic a.permutation.now (length a.numbers.now)) _ _ _ _ _ _ _ _
    c.time_ok.ensures
    c.topic_ok.ensures
    refl
    c.admit-gate.ensures
    c.if-gate-ne0.false
    _
    _
    _
    _
    _
    c.announce_from.ensures
