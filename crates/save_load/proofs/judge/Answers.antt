-- `save_load::judge`: the ranges, then the numbers. Assumes nothing.
use Prim.Native.Nat.{ℕ}
use mathlib.Core.Path.{refl, ap, ◌∙◌}
use mathlib.Core.List.{List}
use Rattle.saves.specs.Load.{parse_from}
use Rattle.save_load.specs.Judge.{judge_of}
use Rattle.save_load.proofs.judge.Goals as goal

pub slice_bounds-fill_most-end : goal.slice_bounds-fill_most-end
slice_bounds-fill_most-end c = refl

pub fill_most-requires : goal.fill_most-requires
fill_most-requires c = (c.requires.0, refl)

pub first_outside-requires : goal.first_outside-requires
first_outside-requires c = c.requires.1

pub returns : goal.returns
returns c st e =
    let a = c.args in
    c.first_outside.ensures
    ∙ ap (λ (m : List ℕ). judge_of m a.s.now a.at a.n (parse_from a.n a.s.now a.at))
    (c.fill_most.ensures st e)
