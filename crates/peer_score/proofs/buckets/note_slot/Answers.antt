-- `peer_score::buckets::note_slot`: one more of each of a connected peer's groups.
use native.Mathlib.Omega.{arith}
use mathlib.Core.Path.{refl}
use Rattle.peer_score.proofs.BucketLaws.{below_on, groups_fit, loaded_rise}
use Rattle.peer_score.proofs.buckets.note_slot.Goals as goal

pub note_held-requires : goal.note_held-requires
note_held-requires c =
    let p = c.requires in
    let fit = groups_fit _ (loaded_rise _ p.standing.router _ p.slot _ c.load_groups-g.ensures) in
    record { room = λ b. omega (arith, p.buckets.most b, p.slot); fits = fit.0 }

pub note_held-requires-2 : goal.note_held-requires-2
note_held-requires-2 c =
    let p = c.requires in
    let fit = groups_fit _ (loaded_rise _ p.standing.router _ p.slot _ c.load_groups-g.ensures) in
    let t1 = c.note_held.ensures _ _ p.buckets in
    record { room = λ b. omega (arith, t1.most b, p.slot); fits = fit.1.0 }

pub note_held-requires-3 : goal.note_held-requires-3
note_held-requires-3 c =
    let p = c.requires in
    let fit = groups_fit _ (loaded_rise _ p.standing.router _ p.slot _ c.load_groups-g.ensures) in
    let t2 = c.note_held-2.ensures _ _ (c.note_held.ensures _ _ p.buckets) in
    record { room = λ b. omega (arith, t2.most b, p.slot); fits = fit.1.1.0 }

pub note_held-requires-4 : goal.note_held-requires-4
note_held-requires-4 c =
    let p = c.requires in
    let fit = groups_fit _ (loaded_rise _ p.standing.router _ p.slot _ c.load_groups-g.ensures) in
    let t3 = c.note_held-3.ensures _ _ (c.note_held-2.ensures _ _ (c.note_held.ensures _ _ p.buckets)) in
    record { room = λ b. omega (arith, t3.most b, p.slot); fits = fit.1.1.1 }

pub returns : goal.returns
returns c =
    let p = c.requires in
    let t3 = c.note_held-3.ensures _ _ (c.note_held-2.ensures _ _ (c.note_held.ensures _ _ p.buckets)) in
    below_on _ _ _ _ _ _ _ refl c.load_groups-g.ensures p.connected
    (loaded_rise _ p.standing.router _ p.slot _ c.load_groups-g.ensures)
    (c.note_held-4.ensures _ _ t3)
