use Prim.Native.Nat.{ℕ}
use mathlib.Core.Path.{◌∙◌, ap, subst, sym}
use Prim.Native.Nat.{◌<◌}
use mathlib.Core.Bool.{Bool}
use Rattle.layout.specs.View.{is_below, code_for}
use Rattle.layout.proofs.load_code.Goals as goal

pub code_for-requires : goal.code_for-requires
code_for-requires c = subst (λ (n : ℕ). n < 4611686018427387904) (sym c.load_magnitude-m.ensures.0)
    c.requires.1.1

pub returns : goal.returns
returns c =
    let m = c.load_magnitude-m in
    c.code_for.ensures
    ∙ ap (λ (b : Bool). code_for b m.result) (c.is_below.ensures ∙ ap is_below c.field_of.ensures)
    ∙ m.ensures.1
