use borrow.Author.Rules.{rules}
use Rattle.index.proofs.Kit.{◌≡◌, ◌<◌, sym, ◌∙◌, arith}
use lib.ListN.{length, get_or}
use Rattle.layout.specs.View.{state_of}
use Rattle.words.specs.Words.{word_count, bits_of}
use Rattle.words.proofs.WideLaws.{bits_of_length}
use Rattle.sets.proofs.WalkLaws.{at_below}
use Rattle.gossip_peers.proofs.TellLaws.{picked_none, picked_few, picked_in, picked_out, picked_full, picked_all}
use Rattle.gossip_peers.proofs.TellLaws.{tells_none, tells_size, tells_as, tells_more}
use Rattle.gossip_peers.proofs.tell.tell_first.Goals.{then-at, else-at}
use Rattle.gossip_peers.proofs.tell.tell_first.Goals as goal

pub loop-s-init : goal.loop-s-init
loop-s-init c =
    let a = c.args in (
      omega arith,
      omega arith,
      tells_as
          (picked_none (state_of a.table.now) (bits_of a.set.now) a.order.now)
          (tells_none a.actions.now),
    )

pub shape_of-actions-then-most-n : goal.shape_of-actions-then-most-n
shape_of-actions-then-most-n c = tells_size c.loop-s.invariant.2

pub returns-then-most-n : goal.returns-then-most-n
returns-then-most-n c =
    let a = c.args in
    let l = c.loop-s in
    let t = c.if-most-n.true in
    let w = l.invariant.2 in
    let n = w.many in
    tells_as
    (picked_full (state_of a.table.now) (bits_of a.set.now) a.order.now l.s-index a.most l.invariant.0 (omega (arith, l.invariant.1)))
    w

pub tell_slot-requires : goal.tell_slot-requires
tell_slot-requires c =
    let p = c.requires in
    let a = c.args in
    let l = c.loop-s in
    let t = c.loop-s-test.true in
    let w = l.invariant.2 in
    let z = tells_size w in
    let f = picked_few (state_of a.table.now) (bits_of a.set.now) a.order.now l.s-index in
    let q : length a.set.now ≡ word_count = search rules in
    let m = bits_of_length a.set.now in
    let h = at_below (bits_of a.set.now) (get_or a.order.now l.s-index 0) (sym c.at.ensures ∙ c.if-at.true) in
    record {
      slot_standing = record { standing = p.0.standing; slot = omega arith };
      n_in_bounds = omega (arith, p.0.room, p.1, w.many, l.invariant.1);
    }

pub overflow_add-n : goal.overflow_add-n
overflow_add-n c =
    let a = c.args in
    let l = c.loop-s in
    let t = c.loop-s-test.true in
    let w = l.invariant.2 in
    let f = picked_few (state_of a.table.now) (bits_of a.set.now) a.order.now l.s-index in
    omega (arith, w.many)

pub loop-s-preserved : goal.loop-s-preserved
loop-s-preserved c =
    let a = c.args in
    let l = c.loop-s in
    let lt : l.s-index < length a.order.now = omega arith in
    let room = c.if-most-n.false in
    let st = state_of a.table.now in
    let p = bits_of a.set.now in
    elim c.if-at.branch [
      | then-at w ↦ (
        omega arith,
        omega (arith, w.n-is),
        tells_as (picked_in st p a.order.now l.s-index lt (sym c.at.ensures ∙ w.if-at.true))
            (rw w.n-is (tells_more _ _ a.actions.now l.actions _ l.n l.invariant.2 (w.actions-is ∙ w.tell_slot.ensures))),
      )
      | else-at w ↦ (
        omega arith,
        omega (arith, w.n-is, l.invariant.1),
        tells_as (picked_out st p a.order.now l.s-index lt (sym c.at.ensures ∙ w.if-at.false))
            (rw (w.actions-is, w.n-is) l.invariant.2),
      )
    ]

pub shape_of-actions : goal.shape_of-actions
shape_of-actions c = tells_size c.loop-s.invariant.2

pub returns : goal.returns
returns c =
    let a = c.args in
    let l = c.loop-s in
    let w = l.invariant.2 in
    tells_as
    (picked_all (state_of a.table.now) (bits_of a.set.now) a.order.now l.s-index a.most (omega arith)
    (omega (arith, w.many, l.invariant.1)))
    w
