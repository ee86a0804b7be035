use Prim.Native.Nat.{◌<◌}
use native.Mathlib.Omega.{arith}
use borrow.Author.Rules.{rules}
use mathlib.Core.Path.{◌≡◌, sym, ap, ◌∙◌}
use lib.ListN.{length}
use Rattle.words.specs.Words.{word_count, bits_of}
use Rattle.heartbeat.proofs.GraftLaws.{walk_none, walk_out, walk_in, walk_full, walk_end, asked_room, grafting_on}
use Rattle.heartbeat.proofs.grafts.graft.Goals.{then-is_grafted, else-is_grafted}
use Rattle.heartbeat.proofs.grafts.graft.Goals as goal

pub loop-s-init : goal.loop-s-init
loop-s-init c =
    let z : length c.args.p ≡ word_count = search rules in
    (omega arith, z, search rules, walk_none _ _ _ _ c.args.p _ _ _ _ z)

pub shape_of-heights-then-room-eq0 : goal.shape_of-heights-then-room-eq0
shape_of-heights-then-room-eq0 c = c.loop-s.invariant.3.scores.size

pub returns-then-room-eq0 : goal.returns-then-room-eq0
returns-then-room-eq0 c =
    let l = c.loop-s in
    let z = c.if-room-eq0.true in
    walk_full _ _ _ _ c.args.p _ _ _ _ l.invariant.1 l.s-index l.room (bits_of l.r) _
    l.invariant.3 (omega arith)

pub slice_bounds-is_grafted-end : goal.slice_bounds-is_grafted-end
slice_bounds-is_grafted-end c = sym c.loop-s.invariant.1

pub slice_bounds-is_grafted-end-in-loop-s : goal.slice_bounds-is_grafted-end-in-loop-s
slice_bounds-is_grafted-end-in-loop-s c = sym c.loop-s.invariant.2

pub is_grafted-requires : goal.is_grafted-requires
is_grafted-requires c =
    let l = c.loop-s in
    record {
      grafting = grafting_on _ _ _ _ _ _ l.invariant.3.scores.size c.requires;
      p_len = l.invariant.1;
    }

pub overflow_sub-room : goal.overflow_sub-room
overflow_sub-room c =
    let l = c.loop-s in
    asked_room _ _ _ _ _ l.room
    (bits_of c.args.p) (bits_of l.r) _ _ _ c.is_grafted.ensures c.if-is_grafted.true

pub loop-s-preserved : goal.loop-s-preserved
loop-s-preserved c =
    let l = c.loop-s in
    let k = c.is_grafted in
    let lt : l.s-index < length
    c.args.order.now = omega arith in
    elim c.if-is_grafted.branch [
      | then-is_grafted w ↦ (
        omega arith,
        l.invariant.1,
        (let q : length w.put-r.result ≡ word_count = search rules in ap length w.r-is ∙ q),
        walk_in _ _ _ _ c.args.p _ _ _ _ l.invariant.1 l.s-index l.room (bits_of l.r) _ _ _ lt l.invariant.3 k.ensures
            w.if-is_grafted.true _ _ w.room-is (ap bits_of w.r-is ∙ w.put-r.ensures),
      )
      | else-is_grafted w ↦ (
        omega arith,
        l.invariant.1,
        ap length w.r-is ∙ l.invariant.2,
        walk_out _ _ _ _ c.args.p _ _ _ _ l.invariant.1 l.s-index l.room (bits_of l.r) _ _ _ lt l.invariant.3 k.ensures
            w.if-is_grafted.false _ _ w.room-is (ap bits_of w.r-is),
      )
    ]

pub shape_of-heights : goal.shape_of-heights
shape_of-heights c = c.loop-s.invariant.3.scores.size

pub returns : goal.returns
returns c =
    let l = c.loop-s in
    walk_end _ _ _ _ c.args.p _ _ _ _ l.invariant.1 l.s-index l.room (bits_of l.r) _
    l.invariant.3 (omega arith)
