-- `rpc_actions::write` meets its contract: a way out for each refusal; else changes and actions fill the list one after the other, and what
-- is written of it is what the writer of entries writes. Assumes nothing.
use mathlib.Core.Path.{◌∙◌}
use Rattle.index.proofs.Kit.{arith, refl, sym}
use Rattle.rpc_actions.proofs.ActionLaws.{sizes, lasting, not_actions, many_changes, odd_changes, front, written}
use lib.Seq.{length-take-le}
use Rattle.rpc.specs.Reading.{known}
use Rattle.rpc_actions.proofs.write.Goals as goal

pub returns-then-not-actions_ok : goal.returns-then-not-actions_ok
returns-then-not-actions_ok c = not_actions _ _ _ _ _ _ (sym c.actions_ok.ensures ∙ c.if-not-actions_ok.true)

pub returns-then-c-gt-MOST_CHANGES : goal.returns-then-c-gt-MOST_CHANGES
returns-then-c-gt-MOST_CHANGES c = many_changes _ _ _ _ _ _ (sym c.actions_ok.ensures ∙ c.if-not-actions_ok.false) c.if-c-gt-MOST_CHANGES.true

pub returns-then-changes-c : goal.returns-then-changes-c
returns-then-changes-c c = odd_changes _ _ _ _ _ _ (sym c.actions_ok.ensures ∙ c.if-not-actions_ok.false)
    c.if-c-gt-MOST_CHANGES.false c.if-changes-c.true

pub put_changes-requires : goal.put_changes-requires
put_changes-requires c = (omega arith, omega arith)

pub put_actions-requires : goal.put_actions-requires
put_actions-requires c = let z = sizes _ _ (sym c.actions_ok.ensures ∙ c.if-not-actions_ok.false) in (omega arith, (omega arith, (omega arith, omega arith)))

pub overflow_add-size : goal.overflow_add-size
overflow_add-size c = let z = sizes _ _ (sym c.actions_ok.ensures ∙ c.if-not-actions_ok.false) in omega arith

pub overflow_mul-size : goal.overflow_mul-size
overflow_mul-size c = let z = sizes _ _ (sym c.actions_ok.ensures ∙ c.if-not-actions_ok.false) in omega arith

pub slice_bounds-list-end : goal.slice_bounds-list-end
slice_bounds-list-end c =
    let z = sizes _ _ (sym c.actions_ok.ensures ∙ c.if-not-actions_ok.false) in
    let a = c.args
    in
    let p = c.put_changes.ensures in
    let l = lasting a.actions.now a.topics.now a.changes.now _ _ _ _ _ p c.put_actions.ensures in
    omega arith

pub slice_bounds-write-end : goal.slice_bounds-write-end
slice_bounds-write-end c =
    let z = sizes _ _ (sym c.actions_ok.ensures ∙ c.if-not-actions_ok.false) in
    let a = c.args in
    let p = c.put_changes.ensures in
    let l = lasting a.actions.now a.topics.now a.changes.now _ _ _ _ _ p c.put_actions.ensures in
    sym (length-take-le _ _ (omega arith))

pub overflow_add-c : goal.overflow_add-c
overflow_add-c c = let z = sizes _ _ (sym c.actions_ok.ensures ∙ c.if-not-actions_ok.false) in omega arith

pub returns : goal.returns
returns c =
    let k = sym c.actions_ok.ensures ∙ c.if-not-actions_ok.false in
    let z = sizes _ _ k in
    let a = c.args in
    let lent = known a.names.now a.ids.now a.numbers.now in
    let p = c.put_changes.ensures in
    let q = c.put_actions.ensures in
    let f = front a.actions.now a.topics.now a.changes.now _ _ _ _ _ refl refl (omega arith) p q in
    written lent a.order.now a.actions.now a.topics.now a.changes.now a.buf.now k
    c.if-c-gt-MOST_CHANGES.false _ _ _
    c.if-changes-c.false f c.write.ensures
