use Prim.Native.Nat.{ℕ}
use native.Mathlib.Omega.{arith}
use mathlib.Core.Path.{sym, ap, ◌∙◌}
use lib.Dec.{eqb}
use Rattle.std.proofs.Common.{position, rules}
use Rattle.stores.specs.View.{window_at}
use Rattle.stores.proofs.ListLaws.{index_some, index_none, place_below, place_no}
use Rattle.stores.proofs.ViewLaws.{window_part, length_window}
use Rattle.stores.proofs.place_in.Goals as goal

pub returns-in_err-k : goal.returns-in_err-k
returns-in_err-k c =
    let e = window_part c.requires c.start-at.ensures c.size.ensures.0 in
    place_no _ _ (search rules)
    (index_none c.args.n _ (ap (position (λ (m : ℕ). eqb m c.args.n)) (sym e) ∙ sym c.index_in.ensures ∙ c.in_err-k.was))

pub returns : goal.returns
returns c =
    let e = window_part c.requires c.start-at.ensures c.size.ensures.0 in
    let w = window_at c.args.cells.now c.args.p in
    let q = index_some c.args.n c.in_ok-k.k w (ap (position (λ (m : ℕ). eqb m c.args.n)) (sym e) ∙ sym c.index_in.ensures ∙ c.in_ok-k.was) in
    let l = length_window c.args.cells.now c.args.p in
    let b = q.0 in
    (q.1, place_below c.in_ok-k.k c.requires (omega arith))
