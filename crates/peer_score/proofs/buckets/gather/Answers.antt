-- `peer_score::buckets::gather`: one answer for each place.
use Rattle.peer_score.proofs.BucketLaws.{groups_fit}
use Rattle.peer_score.proofs.buckets.gather.Goals as goal

pub together-requires : goal.together-requires
together-requires c =
    let p = c.requires in
    let fit = groups_fit _ p.rising in
    record { standing = p.standing; buckets = p.buckets; fits = fit.0 }

pub together-requires-2 : goal.together-requires-2
together-requires-2 c =
    let p = c.requires in
    let fit = groups_fit _ p.rising in
    record { standing = p.standing; buckets = p.buckets; fits = fit.1.0 }

pub together-requires-3 : goal.together-requires-3
together-requires-3 c =
    let p = c.requires in
    let fit = groups_fit _ p.rising in
    record { standing = p.standing; buckets = p.buckets; fits = fit.1.1.0 }

pub together-requires-4 : goal.together-requires-4
together-requires-4 c =
    let p = c.requires in
    let fit = groups_fit _ p.rising in
    record { standing = p.standing; buckets = p.buckets; fits = fit.1.1.1 }

pub returns : goal.returns
returns c =
    record {
      first = c.together.ensures;
      second = c.together-2.ensures;
      third = c.together-3.ensures;
      fourth = c.together-4.ensures;
    }
