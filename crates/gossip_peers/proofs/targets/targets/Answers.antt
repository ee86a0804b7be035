-- `gossip_peers::targets::targets`: nobody is left by the words, or the scores of those that are.
use borrow.Author.Rules.{rules}
use Rattle.index.proofs.Kit.{◌≡◌, sym, ◌∙◌}
use lib.ListN.{length}
use Rattle.words.specs.Words.{word_count, bits_of}
use Rattle.peer_score.proofs.BucketLaws.{tells_none}
use Rattle.heartbeat.proofs.SeenLaws.{flags_length}
use Rattle.gossip_peers.proofs.PeerLaws.{targets_are, targets_none}
use Rattle.gossip_peers.proofs.targets.targets.Goals as goal

pub returns-then-size-eq0 : goal.returns-then-size-eq0
returns-then-size-eq0 c =
    let o = c.eligible-all in
    let z : length o.result ≡ word_count = search rules in
    targets_none _ _ _ (flags_length _ z) o.ensures (sym c.size.ensures ∙ c.if-size-eq0.true)

pub count_groups-requires : goal.count_groups-requires
count_groups-requires c = (c.requires.standing, tells_none)

pub without_low-requires : goal.without_low-requires
without_low-requires c = record {
  standing = c.requires.standing;
  buckets = c.count_groups.ensures;
}

pub returns : goal.returns
returns c = let o = c.eligible-all in targets_are _ _ (bits_of
    o.result) _ o.ensures c.without_low.ensures
