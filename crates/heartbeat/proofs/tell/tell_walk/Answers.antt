use Prim.Native.Nat.{ℕ, ◌+◌, ◌*◌, ◌<◌}
use native.Mathlib.Omega.{arith}
use borrow.Author.Rules.{rules}
use mathlib.Core.Path.{◌≡◌, refl, sym, ap, ap₂, ◌∙◌}
use mathlib.Core.List.{List, [], ◌∷◌}
use lib.ListN.{length, drop, get_or}
use lib.Seq.{sets, length-sets}
use Rattle.layout.specs.View.{state_of}
use Rattle.words.specs.Words.{word_count, bits_of}
use Rattle.words.proofs.WideLaws.{bits_of_length}
use Rattle.sets.proofs.WalkLaws.{at_below}
use Rattle.mesh.specs.Maintenance.{Action, actions_on, seconds_of, numbers_of}
use Rattle.mesh.proofs.ActionLaws.{numbers_none, numbers_cons, acts_in, acts_out, acts_end}
use Rattle.heartbeat.specs.Tell.{ids_in, told_by}
use Rattle.heartbeat.proofs.tell.tell_walk.Goals.{then-at, else-at}
use Rattle.heartbeat.proofs.tell.tell_walk.Goals as goal

pub loop-s-init : goal.loop-s-init
loop-s-init c = (omega arith, refl, refl, refl)

pub tell-requires : goal.tell-requires
tell-requires c =
    let a = c.args in
    let l = c.loop-s in
    let hit = sym c.at.ensures ∙ c.if-at.true in
    let n = ap length (acts_in a.kind (bits_of a.p) a.order.now l.s-index (omega arith) hit) in
    let w = c.requires.writable in
    let q : length a.p ≡ word_count = search rules in
    let m = bits_of_length a.p in
    let z = at_below (bits_of a.p) (get_or a.order.now l.s-index 0) hit in
    record {
      tells = record {
        size = c.requires.size;
        writable =
            record { room = omega (arith, w.room, l.invariant.1, l.invariant.2); narrow_ids = w.narrow_ids; narrow_seconds = w.narrow_seconds };
      };
      slot_lt_slot_count = omega arith;
    }

pub overflow_add-k : goal.overflow_add-k
overflow_add-k c =
    let a = c.args in
    let l = c.loop-s in
    let hit = sym c.at.ensures ∙ c.if-at.true in
    let n = ap length (acts_in a.kind (bits_of a.p) a.order.now l.s-index (omega arith) hit) in
    let room = c.requires.writable.room in
    omega arith

pub loop-s-preserved : goal.loop-s-preserved
loop-s-preserved c =
    let a = c.args in
    let l = c.loop-s in
    let order = a.order.now in
    let p = bits_of a.p in
    let ids = ids_in (state_of a.table.now) in
    let told = told_by (state_of a.table.now) a.seconds in
    let s = get_or order l.s-index 0 in
    let lt : l.s-index < length order = omega arith in
    let rest = actions_on a.kind p (drop (l.s-index + 1) order) in
    let more : List ℕ → ℕ → List ℕ = λ x k. sets x (3 * k) (numbers_of ids told rest) in
    let whole : List Action → List ℕ = λ x. sets l.actions (3 * l.k) (numbers_of ids told x) in
    elim c.if-at.branch [
      | then-at w ↦ (
          let e = acts_in a.kind p order l.s-index lt (sym c.at.ensures ∙ w.if-at.true) in
          let n = ap length e in
          let put = w.actions-is ∙ w.tell.ensures in (
            omega arith,
            ap length put
                ∙ length-sets l.actions (3 * l.k) (a.kind ∷ get_or ids s 0 ∷ seconds_of a.kind told s ∷ [])
                ∙ l.invariant.1,
            omega arith,
            ap₂ more put w.k-is
                ∙ sym (ap whole e ∙ numbers_cons ids told l.actions l.k a.kind s rest)
                ∙ l.invariant.3,
          )
          )
      | else-at w ↦ (
          let e = acts_out a.kind p order l.s-index lt (sym c.at.ensures ∙ w.if-at.false) in
          let n = ap length e in (
            omega arith,
            ap length w.actions-is ∙ l.invariant.1,
            omega arith,
            ap₂ more w.actions-is w.k-is ∙ sym (ap whole e) ∙ l.invariant.3,
          )
          )
    ]

pub shape_of-actions : goal.shape_of-actions
shape_of-actions c = c.loop-s.invariant.1

pub returns : goal.returns
returns c =
    let a = c.args in
    let l = c.loop-s in
    let ids = ids_in (state_of a.table.now) in
    let told = told_by (state_of a.table.now) a.seconds in
    let e = acts_end a.kind (bits_of a.p) a.order.now l.s-index (omega arith) in
    let n = ap length e in
    record {
      many = omega arith;
      list =
          sym
          (ap (λ (x : List Action). sets l.actions (3 * l.k) (numbers_of ids told x)) e
          ∙ numbers_none ids told l.actions (3 * l.k))
          ∙ l.invariant.3;
    }
