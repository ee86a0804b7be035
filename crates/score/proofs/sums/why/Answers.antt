-- `score::sums::why` meets its contract. Assumes nothing.
use borrow.Author.Rules.{sfits_of}
use mathlib.Core.Path.{◌≡◌, ap, ◌∙◌}
use lib.IntN.{ℤ}
use lib.Signed.{mag}
use Prim.Native.Nat.{◌<◌, ◌^◌}
use mir.Syntax.{w64}
use mir.Val.{to_z, of_z}
use mir.Facts.{to_z-of_z}
use Rattle.score.specs.Sums.{worth, told_of}
use Rattle.score.proofs.SumLaws.{same_why}
use Rattle.score.proofs.sums.why.Goals as goal

-- a number that fits is what its bits are
held : (z : ℤ) → mag z < 2 ^ 63 → to_z w64 (of_z w64 z) ≡ z
held z f = to_z-of_z {w = w64} (sfits_of f)

pub returns : goal.returns
unfolding told_of
returns c =
    same_why
    (held _ c.signed.type_inv ∙ c.signed.ensures)
    (held _ c.signed-2.type_inv ∙ c.signed-2.ensures)
    (held _ c.signed-3.type_inv ∙ c.signed-3.ensures)
    (held _ c.lost.type_inv ∙ c.lost.ensures)
    (held _ c.lost-2.type_inv ∙ c.lost-2.ensures)
    (held _ c.signed-4.type_inv ∙ c.signed-4.ensures ∙ ap worth c.total.ensures.0)
