-- `peer_score::buckets::score_among`: the parts with a number of peers that has the same surplus are the parts (`parts_among`).
use mathlib.Core.Path.{ap}
use Rattle.records.specs.declared.Peer.{Peer}
use Rattle.score.proofs.InputLaws.{slot_in}
use Rattle.score.proofs.ScoreLaws.{parts_ready, scores}
use Rattle.peer_score.proofs.BucketLaws.{parts_among, loaded_rise, gathered_in, gathered_crowd}
use Rattle.peer_score.proofs.buckets.score_among.Goals as goal

pub gather-n-requires : goal.gather-n-requires
gather-n-requires c =
    let p = c.requires in
    let k = p.at in
    record {
      standing = k.standing;
      buckets = p.buckets;
      rising = loaded_rise _ k.standing.router _ k.slot _ (ap (λ (o : Peer). o.groups) c.load_peer-p.ensures.0);
    }

pub topics_at-requires : goal.topics_at-requires
topics_at-requires c = let p = c.requires in record { at = p.at; weights = p.weights }

pub parts-requires : goal.parts-requires
parts-requires c =
    let k = c.requires.at in
    parts_ready _ _ (slot_in _ k.standing.router _ k.slot) _ _ _ _ c.load_peer-p.ensures.0 c.load_general-g.ensures
    c.topics_at.ensures.1 (gathered_in _ _ _ _ c.gather-n.ensures)

pub returns : goal.returns
returns c =
    let k = c.requires.at in
    let i = slot_in _ k.standing.router _ k.slot in
    scores _ _ i _ _
    (parts_among _ _ i _ _ _ _ c.load_peer-p.ensures.0 c.load_general-g.ensures _ c.parts.ensures.0
    c.topics_at.ensures.0 (gathered_crowd _ _ _ _ c.gather-n.ensures))
    c.total.ensures.0
