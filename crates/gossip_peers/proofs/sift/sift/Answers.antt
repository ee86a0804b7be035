use borrow.Author.Rules.{rules}
use Rattle.index.proofs.Kit.{◌≡◌, arith}
use lib.ListN.{length}
use Rattle.words.specs.Words.{word_count}
use Rattle.words.proofs.SlotWalk.{begun, took, ended}
use Rattle.heartbeat.proofs.SeenLaws.{flags_length}
use Rattle.gossip_peers.proofs.SiftLaws.{sifted_none, sifted_next, sifted_more, sifted_done}
use Rattle.gossip_peers.proofs.sift.sift.Goals as goal

pub loop-slot-init : goal.loop-slot-init
loop-slot-init g c =
    let b = begun _ _ _ c.into_iter-slot-iterator.ensures.into_iter_gives c.of-slot-items.ensures.set_is c.of-slot-items.ensures.from_is in
    let z : length c.args.all ≡ word_count = search rules in
    (b.0, rw b.1 (λ f h. sifted_none _ _ (flags_length _ z)))

pub passes-requires : goal.passes-requires
passes-requires g c =
    let t = took _ _ _ _ _ c.loop-slot.invariant.0 c.in-Some.is c.next.ensures.steps in
    c.requires _ t.slot_lt

pub loop-slot-preserved : goal.loop-slot-preserved
loop-slot-preserved g c =
    let l = c.loop-slot in
    let t = took _ _ _ _ _ l.invariant.0 c.in-Some.is c.next.ensures.steps in (
      t.set_is,
      rw t.from_is
          (λ f h.
          sifted_more _ _ _ _ _ _ t.slot_lt (t.next.here t.slot_lt) (h _ _ t.slot_lt c.passes.ensures) c.put-more.ensures
          (sifted_next _ _ _ _ _ t.next (l.invariant.1 f h))),
    )

pub returns : goal.returns
returns g c f h =
    let l = c.loop-slot in
    let n = ended _ _ _ _ l.invariant.0 c.in-None.is c.next.ensures.steps in
    sifted_done _ _ _ _ (omega arith) (sifted_next _ _ _ _ _ n (l.invariant.1 f h))
