use Rattle.index.proofs.Kit.{refl, sym, ◌∙◌, arith}
use borrow.Author.Rules.{rules}
use mathlib.Core.Path.{◌≡◌}
use lib.ListN.{length}
use Rattle.words.specs.Words.{word_count}
use Rattle.words.proofs.SlotWalk.{begun, took, ended}
use Rattle.heartbeat.proofs.SeenLaws.{score_at, scores_length, flags_length, sifted_none, sifted_turn, sifted_end}
use Rattle.heartbeat.proofs.seen.candidates.Goals as goal

pub eligible-all-requires : goal.eligible-all-requires
eligible-all-requires c = let p = c.requires in record { standing = p.standing; topic = p.topic }

pub loop-slot-init : goal.loop-slot-init
loop-slot-init c =
    let e = c.eligible-all in
    let z : length e.result ≡ word_count = search rules in
    let b = begun _ _ _ c.into_iter-slot-iterator.ensures.into_iter_gives c.of-slot-items.ensures.set_is c.of-slot-items.ensures.from_is in
    (refl, rw b.1 (sifted_none _ _ _ _ (flags_length _ z) e.ensures))

pub bounds-scores-slot : goal.bounds-scores-slot
bounds-scores-slot c =
    let b = begun _ _ _ c.into_iter-slot-iterator.ensures.into_iter_gives c.of-slot-items.ensures.set_is c.of-slot-items.ensures.from_is in
    let n = scores_length _ _ c.requires.scores in
    let t = (took _ _ _ _ _ (c.loop-slot.invariant.0 ∙ b.0) c.in-Some.is c.next.ensures.steps).slot_lt in
    omega arith

pub is_free-free-requires : goal.is_free-free-requires
is_free-free-requires c =
    let b = begun _ _ _ c.into_iter-slot-iterator.ensures.into_iter_gives c.of-slot-items.ensures.set_is c.of-slot-items.ensures.from_is in
    let t = (took _ _ _ _ _ (c.loop-slot.invariant.0 ∙ b.0) c.in-Some.is c.next.ensures.steps).slot_lt in
    let p = c.requires in
    record {
      standing = p.standing;
      topic = p.topic;
      slot = t;
      score = score_at _ _ _ t p.scores;
    }

pub loop-slot-preserved : goal.loop-slot-preserved
loop-slot-preserved c =
    let b = begun _ _ _ c.into_iter-slot-iterator.ensures.into_iter_gives c.of-slot-items.ensures.set_is c.of-slot-items.ensures.from_is in
    let t = took _ _ _ _ _ (c.loop-slot.invariant.0 ∙ b.0) c.in-Some.is c.next.ensures.steps in (
      t.set_is ∙ sym b.0,
      sifted_turn _ _ _ _ c.eligible-all.ensures _ _ _ _ _ _ t c.is_free-free.ensures c.put-more.ensures c.loop-slot.invariant.1,
    )

pub returns : goal.returns
returns c =
    let b = begun _ _ _ c.into_iter-slot-iterator.ensures.into_iter_gives c.of-slot-items.ensures.set_is c.of-slot-items.ensures.from_is in
    let n = ended _ _ _ _ (c.loop-slot.invariant.0 ∙ b.0) c.in-None.is c.next.ensures.steps in
    sifted_end _ _ _ _ c.eligible-all.ensures _ _ n c.loop-slot.invariant.1
