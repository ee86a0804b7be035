use native.Mathlib.Omega.{arith}
use mathlib.Core.Path.{◌≡◌, ap, ◌∙◌}
use lib.ListN.{length}
use lib.Seq.{length-sets, take_all, sets}
use Rattle.stores.proofs.ListLaws.{sets_more}
use Rattle.stores.proofs.copy_to.Goals as goal

pub bounds-list-at : goal.bounds-list-at
bounds-list-at c =
    let l = c.loop-k in
    let e : length l.list ≡ length c.args.list.now = ap length l.invariant.1 ∙ simp length-sets in
    omega arith

pub loop-k-preserved : goal.loop-k-preserved
loop-k-preserved c =
    let l = c.loop-k in
    (omega arith, sets_more _ _ _ _ _ (omega arith) l.invariant.0 l.invariant.1)

pub shape_of-list : goal.shape_of-list
shape_of-list c = ap length c.loop-k.invariant.1 ∙ simp length-sets

pub returns : goal.returns
returns c =
    let l = c.loop-k in
    l.invariant.1 ∙ ap (sets _ _) (take_all l.k _ (omega arith))
