-- `gossip_peers::tell::tell_targets`: nobody is told, or as many as the share says of the set's slots, of which a permutation's order gives
-- each once.
use borrow.Author.Rules.{rules}
use Rattle.index.proofs.Kit.{◌≡◌}
use lib.ListN.{length}
use Rattle.layout.specs.View.{state_of}
use Rattle.words.specs.Words.{word_count, bits_of}
use Rattle.heartbeat.proofs.SeenLaws.{flags_length}
use Rattle.gossip_peers.proofs.TellLaws.{tells_as, size_most, order_length, chosen_none, chosen_is}
use Rattle.gossip_peers.proofs.tell.tell_targets.Goals as goal

pub returns-then-next : goal.returns-then-next
returns-then-next c p el ef =
    let a = c.args in
    let z : length a.set.now ≡ word_count = search rules in
    chosen_none (state_of a.table.now) p (bits_of a.set.now) a.order.now a.actions.now _ (flags_length _ z)
    c.next.ensures
    c.if-next.true

pub share-most-requires : goal.share-most-requires
share-most-requires c =
    let a = c.args in
    let z : length a.set.now ≡ word_count = search rules in (
      size_most _ _ (flags_length a.set.now z) c.size.ensures,
      c.requires.factor,
    )

pub tell_first-requires : goal.tell_first-requires
tell_first-requires c = let p = c.requires in (
  p.lent,
  order_length _ p.permutation,
)

pub returns : goal.returns
returns c p el ef =
    let a = c.args in
    let z : length a.set.now ≡ word_count = search rules in
    tells_as
    (chosen_is (state_of a.table.now) p (bits_of a.set.now) a.order.now a.lazy a.factor _ _ (flags_length _ z)
    c.requires.permutation
    el
    ef
    c.size.ensures
    c.share-most.ensures)
    c.tell_first.ensures
